-- A comparison that ends with "different" has a witness, and it is short.
--
-- The idea: suppose that no input within the bound is a witness. Then row by row, in the order in which they were written, each is true on inputs within what is left of the bound:
-- by its stage, its pair would differ on a candidate, which comes from the given words or from a row before it. And so the ending cannot be.
-- Each test of this is made with "or a witness", which gives it.
--
-- Assumes nothing.
use Rattle.std.proofs.Common.{◌≡◌, ℕ, suc, ◌+◌, ◌*◌, ◌<◌, ◌≤◌, ◌⊎◌, [], ◌∷◌, ◌++◌, length, Some, sym, ap, ◌∙◌, inl, inr, mul-le-mul_left, arith}
use native.Mathlib.Decide.{ℕ_discrete}
use Rattle.tally.specs.Group.{Group}
use Rattle.grammar.specs.Meaning.{Word, Input, Weighted, Meaning, Below}
use Rattle.grammar.specs.Takes.{shift, takes, Differ}
use Rattle.grammar.proofs.Options.{some_same}
use Rattle.grammar.proofs.Takes.{differ_law}
use Rattle.norm.specs.Norms.{norms, firsts, Earlier, Closed}
use Rattle.norm.specs.Laws.{NormLaws}
use Rattle.norm.proofs.Weights.{each_front, each_back}
use Rattle.rows.specs.Sheets.{Sheet, unweighed, offset, Normal, TrueRow, Ranked}
use Rattle.rows.proofs.Replacing.{norm_kept, known_kept}
use Rattle.witness.specs.Alike.{AlikeOn, TrueOn}
use Rattle.witness.specs.Forks.{later_word, earlier_word, row_word, row_with, completed, candidates, ForkAlike}
use Rattle.witness.specs.Laws.{TrueFirst, Short}
use Rattle.witness.specs.History.{Limited, Given, Origin, given, from_row, Pair, Apart, Written, History, none_written, one_written, Ending, rule_of_symbol, rule_of_word, unlike_norms, unlike_sums, no_run, too_heavy, no_offset, WitnessLaw}
use Rattle.witness.proofs.Bounds.{stage_bound, start_bound, total_bound}
use Rattle.witness.proofs.Sums.{difference_shift}
use Rattle.witness.proofs.Fronts.{first_symbol}
use Rattle.witness.proofs.Forks.{row_true, row_there, candidate_short, first_short}
use Rattle.witness.proofs.Walks.{settled}
use Rattle.witness.proofs.Endings as endings
use Rattle.witness.proofs.Limits as limits_of
use Rattle.witness.proofs.Written.{history_ranked}
use Rattle.witness.proofs.Searching.{next, sought, tested, all_or, told, blame_or}

less_suc : (k : ℕ) → k < suc k
less_suc k = omega arith

le_suc : (k : ℕ) → k ≤ suc k
le_suc k = omega arith

module _ {T : Type 0} (𝓣 : Group T) (M : Meaning T) (norm : ℕ → ℕ) (first : ℕ → Input) (N : NormLaws 𝓣 M norm first) (C : Closed M) (v : ℕ) (limits : Limited M norm v)
    (n : ℕ) (x₀ y₀ : Word) (one_given : Given M x₀) (two_given : Given M y₀) (X : Type 0) (look : (t : Input) → length t ≤ 8 * n * v → (takes 𝓣 M x₀ t ≡ takes 𝓣 M y₀ t) ⊎ X) where
  -- the rows of a sheet are true on inputs within what is left of the bound
  abbrev Tests : ℕ → Sheet T → Type 0
  Tests k D = (A : ℕ) (m : Weighted T) → D A ≡ Some m → (z : Input) → length z + 8 * v * k ≤ 8 * n * v → TrueOn 𝓣 M A m z ⊎ X

  origin_or : (k : ℕ) (D : Sheet T) → Tests k D → (e : ℕ) (p q : T) (x y : Word) → Origin 𝓣 M x₀ y₀ D e p q x y → (t : Input) → length t + e + 8 * v * k ≤ 8 * n * v → AlikeOn 𝓣 M p q x y t ⊎ X
  origin_or k D test e p q x y (given none ep eq ex ey) t l =
      next (look t (omega arith)) (λ h. inl (rw (ep, eq, ex, ey) (ap (shift 𝓣 𝓣.zero) h)))
  origin_or k D test e p q x y (from_row A c m a b d f g one ep eq ex ey) t l =
      next (test A m d (c ∷ t) (omega arith)) (λ h. inl (rw (ep, eq, ex, ey) (endings.row_leads 𝓣 M A c m a b t f g h)))

  pair_or : (k : ℕ) (D : Sheet T) → Tests k D → (P : Pair 𝓣 M x₀ y₀ D) (t : Input) → length t + P.letters + 8 * v * k ≤ 8 * n * v → AlikeOn 𝓣 M P.first_sum P.second_sum P.first P.second t ⊎ X
  pair_or k D test P t l = go P.origin
    where
      go : Origin 𝓣 M x₀ y₀ D P.letters P.first_sum P.second_sum P.first P.second ⊎ Origin 𝓣 M x₀ y₀ D P.letters P.second_sum P.first_sum P.second P.first → AlikeOn 𝓣 M P.first_sum P.second_sum P.first P.second t ⊎ X
      go (inl o) = origin_or k D test P.letters P.first_sum P.second_sum P.first P.second o t l
      go (inr o) = next (origin_or k D test P.letters P.second_sum P.first_sum P.second P.first o t l) (λ h. inl (sym h))

  -- the normal forms of a pair
  normal_or : (k : ℕ) (D : Sheet T) → Tests k D → (P : Pair 𝓣 M x₀ y₀ D) (x y : Word) (s r : T) → Normal 𝓣 D P.first x s → Normal 𝓣 D P.second y r →
      (t : Input) → length t + P.letters + 8 * v * k ≤ 8 * n * v → AlikeOn 𝓣 M (𝓣.add P.first_sum s) (𝓣.add P.second_sum r) x y t ⊎ X
  normal_or k D test P x y s r fx fy t l =
      next (pair_or k D test P t l)
      (λ here. next (blame_or 𝓣 M X D fx t (λ A m d b h. test A m d b (omega arith)))
      (λ hx. next (blame_or 𝓣 M X D fy t (λ A m d b h. test A m d b (omega arith)))
      (λ hy. inl (settled 𝓣 M P.first P.second x y P.first_sum P.second_sum s r t hx hy here))))

  fork_or : (k : ℕ) (D : Sheet T) → Tests k D → (P : Apart 𝓣 M norm first x₀ y₀ D) (c : Input) → length (firsts first P.fork.common ++ c) + P.pair.letters + 8 * v * k ≤ 8 * n * v → ForkAlike 𝓣 M norm first P.fork c ⊎ X
  fork_or k D test P c l =
      next (normal_or k D test P.pair (later_word 𝓣 M norm first P.fork) (earlier_word 𝓣 M norm first P.fork) P.fork_of.one P.fork_of.two P.fork_of.normal_one P.fork_of.normal_two
      (firsts first P.fork.common ++ c) l)
      (λ h. inl (rw (P.fork_of.sum_one, P.fork_of.sum_two) h))

  -- a pair weighs at most 8 v with the letters that lead to it, and so do its normal forms
  abbrev Light : ℕ → Word → Type 0
  Light k x = Below M.count x × (norms norm x + k ≤ 8 * v)

  pair_light : (D : Sheet T) → Ranked M.count norm (unweighed D) → (P : Pair 𝓣 M x₀ y₀ D) → Light P.letters P.first × Light P.letters P.second
  pair_light D ranked P = limits_of.pair_light 𝓣 M norm first N C v limits D ranked x₀ y₀ one_given two_given P

  normal_light : (D : Sheet T) → Ranked M.count norm (unweighed D) → (k : ℕ) (x z : Word) (s : T) → Normal 𝓣 D x z s → Light k x → Light k z
  normal_light D ranked k x z s f l =
      let e = norm_kept 𝓣 M.count norm D ranked f in
      let h = l.1 in
      (known_kept 𝓣 M.count norm D ranked f l.0, omega arith)

  fork_light : (D : Sheet T) → Ranked M.count norm (unweighed D) → (P : Apart 𝓣 M norm first x₀ y₀ D) → norms norm (later_word 𝓣 M norm first P.fork) + P.pair.letters ≤ 8 * v
  fork_light D ranked P =
      (normal_light D ranked P.pair.letters P.pair.first (later_word 𝓣 M norm first P.fork) P.fork_of.one P.fork_of.normal_one (pair_light D ranked P.pair).0).1

  -- one stage
  stage_or : (k : ℕ) (D : Sheet T) → Ranked M.count norm (unweighed D) → Tests k D → (P : Apart 𝓣 M norm first x₀ y₀ D) (o : T) → TrueFirst 𝓣 M norm first P.fork o →
      (z : Input) → length z + 8 * v * suc k ≤ 8 * n * v → TrueOn 𝓣 M P.fork.later (row_with 𝓣 M norm first P.fork o) z ⊎ X
  stage_or k D ranked test P o offset z l =
      next (all_or (λ c. Short 𝓣 M norm first P.fork z (firsts first P.fork.common ++ c)) (ForkAlike 𝓣 M norm first P.fork) (candidates 𝓣 M norm first P.fork z)
      (λ c h. fork_or k D test P c (bound (firsts first P.fork.common ++ c) h)) (candidate_short 𝓣 M norm first N P.fork z))
      (λ all. inl (row_true 𝓣 M norm first N P.fork o offset z all))
    where
      bound : (t : Input) → Short 𝓣 M norm first P.fork z t → length t + P.pair.letters + 8 * v * k ≤ 8 * n * v
      bound t h =
          let light = fork_light D ranked P in
          let s = stage_bound v (length t) (length z) (norm P.fork.later) (norms norm (later_word 𝓣 M norm first P.fork)) P.pair.letters light h in
          total_bound v n (suc k) k (length z) (length t + P.pair.letters) l (less_suc k) s

  -- the row that is written, and the rows before it
  written_or : (k : ℕ) (D E : Sheet T) → Ranked M.count norm (unweighed D) → Tests k D → Written 𝓣 M norm first x₀ y₀ D E → Tests (suc k) E
  written_or k D E ranked test W A m d z l = go (ℕ_discrete A W.apart.fork.later)
    where
      at_first : TrueFirst 𝓣 M norm first W.apart.fork (offset 𝓣 M first W.apart.fork.later (row_word 𝓣 M norm first W.apart.fork))
      at_first =
          let F = W.apart.fork in
          let a = first_symbol 𝓣 M norm first N F.later F.later_known in
          difference_shift 𝓣 a.0 W.taken.0 (takes 𝓣 M (F.later ∷ []) (first F.later)) (takes 𝓣 M (row_word 𝓣 M norm first F) (first F.later)) a.1 W.taken.1

      go : Dec (A ≡ W.apart.fork.later) → TrueOn 𝓣 M A m z ⊎ X
      go (yes h) =
          next (stage_or k D ranked test W.apart (offset 𝓣 M first W.apart.fork.later (row_word 𝓣 M norm first W.apart.fork)) at_first z l)
          (λ t. inl (rw (h, some_same (sym d ∙ ap E h ∙ W.grown.here)) t))
      go (no h) = test A m (sym (W.grown.others A h) ∙ d) z (let b = mul-le-mul_left (8 * v) (le_suc k) in omega arith)

  tests : (D : Sheet T) → Ranked M.count norm (unweighed D) → ((A : ℕ) (m : Weighted T) → D A ≡ Some m → TrueRow 𝓣 M A m) → {k : ℕ} {E : Sheet T} → History 𝓣 M norm first x₀ y₀ D k E → Tests k E
  tests D ranked old none_written A m d z l = inl (old A m d z)
  tests D ranked old (one_written {k = k} {E = E} {E' = E'} H W) A m d z l =
      written_or k E E' (history_ranked 𝓣 M norm first N x₀ y₀ D ranked H) (tests D ranked old H) W A m d z l

  -- at the end 8 v letters are left
  within : (k e : ℕ) (x : Word) → k < n → Light e x → length (firsts first x) + e + 8 * v * k ≤ 8 * n * v
  within k e x kn l = let h = l.1 in let s = N.size x l.0 in start_bound v n k (length (firsts first x) + e) (omega arith) kn

  -- normal forms that are apart at A and B
  record Parting (D : Sheet T) (P : Pair 𝓣 M x₀ y₀ D) (A B : ℕ) (u a b : Word) : Type 0 where
    pub one : T
    pub two : T
    pub normal_one : Normal 𝓣 D P.first (u ++ (A ∷ a)) one
    pub normal_two : Normal 𝓣 D P.second (u ++ (B ∷ b)) two

  parting_or : (k : ℕ) (E : Sheet T) → Ranked M.count norm (unweighed E) → Tests k E → k < n → (P : Pair 𝓣 M x₀ y₀ E) (A B : ℕ) (u a b : Word) (S : Parting E P A B u a b) →
      Below M.count (u ++ (B ∷ b)) × (AlikeOn 𝓣 M (𝓣.add P.first_sum S.one) (𝓣.add P.second_sum S.two) (u ++ (A ∷ a)) (u ++ (B ∷ b)) (firsts first u ++ (first B ++ firsts first b)) ⊎ X)
  parting_or k E ranked test kn P A B u a b S =
      let l = normal_light E ranked P.letters P.second (u ++ (B ∷ b)) S.two S.normal_two (pair_light E ranked P).1 in
      let e = ap length (N.firsts_append u (B ∷ b)) in
      let w = within k P.letters (u ++ (B ∷ b)) kn l in
      (l.0, normal_or k E test P (u ++ (A ∷ a)) (u ++ (B ∷ b)) S.one S.two S.normal_one S.normal_two (firsts first u ++ (first B ++ firsts first b)) (omega arith))

  ending : (k : ℕ) (E : Sheet T) → Ranked M.count norm (unweighed E) → Tests k E → k < n → Ending 𝓣 M norm first x₀ y₀ E → ⊥ ⊎ X
  ending k E ranked test kn (rule_of_symbol A c m a d e f) =
      let l = limits_of.symbol_light 𝓣 M norm first N C v limits E ranked A c m a d e in
      let w = within k 1 a.word kn l in
      next (test A m d (c ∷ firsts first a.word) (omega arith)) (λ h. inl (endings.rule_of_symbol 𝓣 M norm first N A c m a l.0 e f h))
  ending k E ranked test kn (rule_of_word A c m a d e f) =
      let l = limits_of.word_light 𝓣 M norm first N C v limits E ranked A c m a d f in
      let w = within k 1 a.word kn l in
      next (test A m d (c ∷ firsts first a.word) (omega arith)) (λ h. inl (endings.rule_of_word 𝓣 M norm first N A c m a l.0 e f h))
  ending k E ranked test kn (unlike_norms P less) =
      let l = (pair_light E ranked P).0 in
      next (pair_or k E test P (firsts first P.first) (within k P.letters P.first kn l))
      (λ h. inl (endings.unlike_norms 𝓣 M norm first N P.first_sum P.second_sum P.first P.second l.0 less h))
  ending k E ranked test kn (unlike_sums P z s r fx fy apart) =
      let l = normal_light E ranked P.letters P.first z s fx (pair_light E ranked P).0 in
      next (normal_or k E test P z z s r fx fy (firsts first z) (within k P.letters z kn l))
      (λ h. inl (apart (endings.unlike_sums 𝓣 M norm first N (𝓣.add P.first_sum s) (𝓣.add P.second_sum r) z l.0 h)))
  ending k E ranked test kn (no_run P A B u a b s r fx fy earlier e) =
      let p = parting_or k E ranked test kn P A B u a b (record { one = s; two = r; normal_one = fx; normal_two = fy }) in
      let back = each_back (λ D. D < M.count) u (B ∷ b) p.0 in
      let front = each_front (λ D. D < M.count) u (B ∷ b) p.0 in
      next p.1 (λ h. inl (endings.no_run 𝓣 M norm first N A B u a b (𝓣.add P.first_sum s) (𝓣.add P.second_sum r) back.0 front back.1 (no_later A B earlier) e h))
    where
      no_later : (A B : ℕ) → Earlier norm B A → norm B ≤ norm A
      no_later A B (inl l) = omega arith
      no_later A B (inr l) = let h = l.0 in omega arith
  ending k E ranked test kn (too_heavy P A B u a b s r m fx fy same e lt) =
      let p = parting_or k E ranked test kn P A B u a b (record { one = s; two = r; normal_one = fx; normal_two = fy }) in
      let back = each_back (λ D. D < M.count) u (B ∷ b) p.0 in
      let front = each_front (λ D. D < M.count) u (B ∷ b) p.0 in
      let one = norm_kept 𝓣 M.count norm E ranked fx in
      let two = norm_kept 𝓣 M.count norm E ranked fy in
      let f = N.norms_append u (A ∷ a) in
      let g = N.norms_append u (B ∷ b) in
      let even : norm A + norms norm a ≡ norm B + norms norm b = omega arith in
      next p.1 (λ h. inl (endings.too_heavy 𝓣 M norm first N A B u a b (𝓣.add P.first_sum s) (𝓣.add P.second_sum r) m back.0 front back.1 even e lt h))
  ending k E ranked test kn (no_offset P e) =
      next (all_or (λ c. length (firsts first P.fork.common ++ c) ≤ norms norm (later_word 𝓣 M norm first P.fork)) (ForkAlike 𝓣 M norm first P.fork) (completed 𝓣 M norm first P.fork (first P.fork.later))
      (λ c h. fork_or k E test P c (start_bound v n k (length (firsts first P.fork.common ++ c) + P.pair.letters) (let l = fork_light E ranked P in omega arith) kn)) (first_short 𝓣 M norm first N P.fork))
      (λ all. inl (row_there 𝓣 M norm first N P.fork e all))

module _ {T : Type 0} (𝓣 : Group T) (M : Meaning T) (norm : ℕ → ℕ) (first : ℕ → Input) (N : NormLaws 𝓣 M norm first) (C : Closed M) where
  pub witness : (x₀ y₀ : Word) (v : ℕ) → WitnessLaw 𝓣 M norm first x₀ y₀ v
  witness x₀ y₀ v limits one two D E n k ranked old H last kn =
      sought (λ f. f) (ending 𝓣 M norm first N C v limits n x₀ y₀ one two Sought look k E
      (history_ranked 𝓣 M norm first N x₀ y₀ D ranked H) (tests 𝓣 M norm first N C v limits n x₀ y₀ one two Sought look D ranked old H) kn last)
    where
      Sought : Type 0
      Sought = (t : Input) × Differ 𝓣 M x₀ y₀ t × (length t ≤ 8 * n * v)

      look : (t : Input) → length t ≤ 8 * n * v → (takes 𝓣 M x₀ t ≡ takes 𝓣 M y₀ t) ⊎ Sought
      look t l = tested (told 𝓣 (takes 𝓣 M x₀ t) (takes 𝓣 M y₀ t)) (λ f. (t, (differ_law 𝓣 M x₀ y₀ t).1 f, l))
