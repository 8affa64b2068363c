-- The worked examples of rows, over any tallies.
--
-- The idea: where a letter is none of a grammar's own, no rule stands on either side; at each other letter the two normal forms are written down.
--
-- Assumes nothing.
use Rattle.std.proofs.Common.{◌≡◌, ℕ, ◌<◌, [], ◌∷◌, length, get_or, Some, sym, refl, ap, ◌∙◌, subst, eq-eqb, ne_eqb, arith}
use native.Mathlib.Decide.{ℕ_discrete}
use Rattle.tally.specs.Group.{Group}
use Rattle.tally.proofs.Totals.{right}
use Rattle.grammar.specs.Meaning.{Word, Input, Weighted, Meaning}
use Rattle.grammar.proofs.Options.{none_some, some_same}
use Rattle.norm.specs.Norms.{norms}
use Rattle.rows.specs.Sheets.{Sheet, Normal, normal_nil, normal_keep, normal_put, Joined, offset, weighed, Agrees, SelfProving, Shaped}
use Rattle.rows.specs.Example.{L, P, S, b, c, e, k, q, seven, sevens, four, fours, both, row, alone, Examples}
use Rattle.rows.proofs.Normals.{normal_once}
use Rattle.rows.proofs.Sound.{left_comm}
use Rattle.rows.proofs.Listing.{seven_first, four_first}

-- a row of one symbol, of the same norm and a smaller number
shaped_one : (n : ℕ) (norm : ℕ → ℕ) (A B : ℕ) → A < n → B < A → norms norm (B ∷ []) ≡ norm A → Shaped n norm A (B ∷ [])
shaped_one n norm A B h l e = record { symbol = h; below = (omega arith, tt); weighs = e; lower = λ C d. subst (λ X. X < A) (ap (λ w. get_or w 0 0) d) l }

b_c : ¬ Shaped 7 (λ A. length (sevens A)) b (c ∷ [])
b_c h = let l : c < b = h.lower c refl in omega arith

module _ {T : Type 0} (𝓣 : Group T) where
  less_itself : (t : T) → 𝓣.add t (𝓣.neg t) ≡ 𝓣.zero
  less_itself t = 𝓣.comm t (𝓣.neg t) ∙ 𝓣.inverse t

  one_inverse : (t u : T) → 𝓣.add t u ≡ 𝓣.zero → t ≡ 𝓣.neg u
  one_inverse t u h =
      sym (right 𝓣 t) ∙ ap (𝓣.add t) (sym (less_itself u)) ∙ sym (𝓣.assoc t u (𝓣.neg u)) ∙ ap (λ v. 𝓣.add v (𝓣.neg u)) h ∙ 𝓣.left (𝓣.neg u)

  -- a tally less one that has t besides
  less_more : (t u : T) → 𝓣.add u (𝓣.neg (𝓣.add t u)) ≡ 𝓣.neg t
  less_more t u =
      one_inverse (𝓣.add u (𝓣.neg (𝓣.add t u))) t (𝓣.comm (𝓣.add u (𝓣.neg (𝓣.add t u))) t ∙ sym (𝓣.assoc t u (𝓣.neg (𝓣.add t u))) ∙ less_itself (𝓣.add t u))

  less_zeros : (t : T) → 𝓣.add (𝓣.add t 𝓣.zero) (𝓣.neg (𝓣.add 𝓣.zero 𝓣.zero)) ≡ t
  less_zeros t =
      let z = one_inverse 𝓣.zero (𝓣.add 𝓣.zero 𝓣.zero) (𝓣.left (𝓣.add 𝓣.zero 𝓣.zero) ∙ 𝓣.left 𝓣.zero) in
      ap (𝓣.add (𝓣.add t 𝓣.zero)) (sym z) ∙ right 𝓣 (𝓣.add t 𝓣.zero) ∙ right 𝓣 t

  brought : (t u : T) → 𝓣.add t (𝓣.add u (𝓣.neg t)) ≡ u
  brought t u = left_comm 𝓣 t u (𝓣.neg t) ∙ ap (𝓣.add u) (less_itself t) ∙ right 𝓣 u

  -- sums of two sides with the offset o
  even_at : (o p u r v : T) → o ≡ u → 𝓣.add p 𝓣.zero ≡ 𝓣.add (𝓣.add u r) v → 𝓣.add p 𝓣.zero ≡ 𝓣.add (𝓣.add o r) v
  even_at o p u r v h j = j ∙ ap (λ t. 𝓣.add (𝓣.add t r) v) (sym h)

  even_none : (o p : T) → o ≡ 𝓣.zero → 𝓣.add p 𝓣.zero ≡ 𝓣.add (𝓣.add o p) 𝓣.zero
  even_none o p h = even_at o p 𝓣.zero p 𝓣.zero h (ap (λ t. 𝓣.add t 𝓣.zero) (sym (𝓣.left p)))

  module _ {D : Sheet T} {s : T} {p r : Weighted T} {z y : Word} {u v : T} (f : Normal 𝓣 D p.word z u) (h : Normal 𝓣 D r.word y v) where
    joined : z ≡ y → 𝓣.add p.tally u ≡ 𝓣.add (𝓣.add s r.tally) v → Joined 𝓣 D s p r
    joined same even = record { word = y; one = u; two = v; normal_one = subst (λ w. Normal 𝓣 D p.word w u) same f; normal_two = h; even = even }

    -- a joined pair has one normal form
    apart : Joined 𝓣 D s p r → z ≡ y
    apart j = (normal_once 𝓣 D f j.normal_one).0 ∙ sym (normal_once 𝓣 D h j.normal_two).0

  module _ (M : Meaning T) (first : ℕ → Input) where
    -- a row that is known
    known : (D : Sheet T) (A : ℕ) (r : Weighted T) → D A ≡ Some r → ((a : ℕ) → Agrees 𝓣 M D A r a) → (C : ℕ) (m : Weighted T) → D C ≡ Some m → C ≡ A → (a : ℕ) → Agrees 𝓣 M D C m a
    known D A r f agrees C m d h a =
        let n : r ≡ m = some_same (sym f ∙ ap D (sym h) ∙ d) in
        subst (λ B. Agrees 𝓣 M D B m a) (sym h) (subst (λ w. Agrees 𝓣 M D A w a) n (agrees a))

    -- a sheet with one row
    lone_proves : (A : ℕ) (w : Word) → ((a : ℕ) → Agrees 𝓣 M (alone 𝓣 M first A w) A (row 𝓣 M first A w) a) → SelfProving 𝓣 M (alone 𝓣 M first A w)
    lone_proves A w agrees C m d a l = go (ℕ_discrete C A)
      where
        go : Dec (C ≡ A) → Agrees 𝓣 M (alone 𝓣 M first A w) C m a
        go (yes h) = known (alone 𝓣 M first A w) A (row 𝓣 M first A w) (rw (eq-eqb A A refl) refl) agrees C m d h a
        go (no h) = absurd (none_some {x = m} (rw (ne_eqb C A h) at d))

  module _ (x y z : T) where
    abbrev M : Meaning T
    M = seven 𝓣 x y z

    abbrev one : ℕ → ℕ → Sheet T
    one A B = alone 𝓣 M sevens A (B ∷ [])

    abbrev off : ℕ → ℕ → T
    off A B = offset 𝓣 M sevens A (B ∷ [])

    abbrev Good : ℕ → ℕ → ℕ → Type 0
    Good A B a = Agrees 𝓣 M (one A B) A (row 𝓣 M sevens A (B ∷ [])) a

    c_b_offset : off c b ≡ 𝓣.zero
    c_b_offset = less_itself (𝓣.add x 𝓣.zero)

    q_k_offset : off q k ≡ 𝓣.neg z
    q_k_offset = ap (λ t. 𝓣.add t (𝓣.neg (𝓣.add z (𝓣.add x 𝓣.zero)))) (𝓣.left (𝓣.add x 𝓣.zero)) ∙ less_more z (𝓣.add x 𝓣.zero)

    c_b : (a : ℕ) → Good c b a
    c_b a = go (ℕ_discrete a L) (ℕ_discrete a S)
      where
        put_b : 𝓣.add 𝓣.zero (𝓣.add (off c b) 𝓣.zero) ≡ 𝓣.add (𝓣.add (off c b) 𝓣.zero) 𝓣.zero
        put_b = 𝓣.left (𝓣.add (off c b) 𝓣.zero) ∙ sym (right 𝓣 (𝓣.add (off c b) 𝓣.zero))

        go : Dec (a ≡ L) → Dec (a ≡ S) → Good c b a
        go (yes h) j = rw h (joined normal_nil normal_nil refl (even_none (off c b) x c_b_offset))
        go (no h) (yes j) = rw j (joined (normal_keep refl (normal_put {r = []} refl (normal_keep refl normal_nil))) (normal_keep refl (normal_keep refl normal_nil)) refl put_b)
        go (no h) (no j) = rw (ne_eqb a L h, ne_eqb a S j) tt

    q_k : (a : ℕ) → Good q k a
    q_k a = go (ℕ_discrete a P)
      where
        go : Dec (a ≡ P) → Good q k a
        go (yes h) = rw h (joined (normal_keep refl normal_nil) (normal_keep refl normal_nil) refl (even_at (off q k) 𝓣.zero (𝓣.neg z) z 𝓣.zero q_k_offset (ap (λ t. 𝓣.add t 𝓣.zero) (sym (𝓣.inverse z)))))
        go (no h) = rw (ne_eqb a P h) tt

    e_b_before : (a : ℕ) → a < S → Good e b a
    e_b_before a l = go (ℕ_discrete a L) (ℕ_discrete a S)
      where
        go : Dec (a ≡ L) → Dec (a ≡ S) → Good e b a
        go (yes h) j = rw h (joined normal_nil normal_nil refl (even_none (off e b) x (less_itself (𝓣.add x 𝓣.zero))))
        go (no h) (yes j) = absurd (omega arith)
        go (no h) (no j) = rw (ne_eqb a L h, ne_eqb a S j) tt

    e_b_not : ¬ Good e b S
    e_b_not j =
        let h : ◌≡◌ {A = Word} (b ∷ b ∷ b ∷ []) (b ∷ b ∷ []) = apart (normal_keep refl (normal_keep refl (normal_keep refl normal_nil))) (normal_keep refl (normal_keep refl normal_nil)) j in
        let n : ◌≡◌ {A = ℕ} 3 2 = ap length h in
        omega arith

  -- the pair of rows that agree together
  module _ (x y : T) where
    abbrev N : Meaning T
    N = four 𝓣 x y

    alone_2 : ¬ Agrees 𝓣 N (alone 𝓣 N fours 2 (0 ∷ [])) 2 (row 𝓣 N fours 2 (0 ∷ [])) S
    alone_2 j =
        let h : ◌≡◌ {A = Word} (3 ∷ []) (1 ∷ []) = apart (normal_keep refl normal_nil) (normal_keep refl normal_nil) j in
        let n : ◌≡◌ {A = ℕ} 3 1 = ap (λ w. get_or w 0 0) h in
        omega arith

    alone_3 : ¬ Agrees 𝓣 N (alone 𝓣 N fours 3 (1 ∷ [])) 3 (row 𝓣 N fours 3 (1 ∷ [])) S
    alone_3 j =
        let h : ◌≡◌ {A = Word} (2 ∷ []) (0 ∷ []) = apart (normal_keep refl normal_nil) (normal_keep refl normal_nil) j in
        let n : ◌≡◌ {A = ℕ} 2 0 = ap (λ w. get_or w 0 0) h in
        omega arith

    abbrev D : Sheet T
    D = weighed 𝓣 N fours both

    -- what is added at S on each side
    sum_2 : (o p : T) → o ≡ x → p ≡ y → 𝓣.add 𝓣.zero (𝓣.add p 𝓣.zero) ≡ 𝓣.add (𝓣.add o (𝓣.add y (𝓣.neg x))) 𝓣.zero
    sum_2 o p h j =
        𝓣.left (𝓣.add p 𝓣.zero) ∙ ap (λ t. 𝓣.add t 𝓣.zero) (j ∙ sym (brought x y) ∙ ap (λ t. 𝓣.add t (𝓣.add y (𝓣.neg x))) (sym h))

    sum_3 : (o p : T) → o ≡ x → p ≡ y → 𝓣.add (𝓣.add y (𝓣.neg x)) (𝓣.add o 𝓣.zero) ≡ 𝓣.add (𝓣.add p 𝓣.zero) 𝓣.zero
    sum_3 o p h j =
        ap (𝓣.add (𝓣.add y (𝓣.neg x))) (right 𝓣 o ∙ h) ∙ 𝓣.comm (𝓣.add y (𝓣.neg x)) x ∙ brought x y ∙ sym j ∙ sym (right 𝓣 p) ∙ sym (right 𝓣 (𝓣.add p 𝓣.zero))

    sum_L : (o t : T) → o ≡ t → 𝓣.add t 𝓣.zero ≡ 𝓣.add (𝓣.add o 𝓣.zero) 𝓣.zero
    sum_L o t h = even_at o t t 𝓣.zero 𝓣.zero h (sym (right 𝓣 (𝓣.add t 𝓣.zero)))

    good_2 : (a : ℕ) → Agrees 𝓣 N D 2 (row 𝓣 N fours 2 (0 ∷ [])) a
    good_2 a = go (ℕ_discrete a L) (ℕ_discrete a S)
      where
        go : Dec (a ≡ L) → Dec (a ≡ S) → Agrees 𝓣 N D 2 (row 𝓣 N fours 2 (0 ∷ [])) a
        go (yes h) j = rw h (joined normal_nil normal_nil refl (sum_L (offset 𝓣 N fours 2 (0 ∷ [])) x (less_zeros x)))
        go (no h) (yes j) = rw j (joined (normal_put {r = []} refl (normal_keep refl normal_nil)) (normal_keep refl normal_nil) refl (sum_2 (offset 𝓣 N fours 2 (0 ∷ [])) (offset 𝓣 N fours 3 (1 ∷ [])) (less_zeros x) (less_zeros y)))
        go (no h) (no j) = rw (ne_eqb a L h, ne_eqb a S j) tt

    good_3 : (a : ℕ) → Agrees 𝓣 N D 3 (row 𝓣 N fours 3 (1 ∷ [])) a
    good_3 a = go (ℕ_discrete a L) (ℕ_discrete a S)
      where
        go : Dec (a ≡ L) → Dec (a ≡ S) → Agrees 𝓣 N D 3 (row 𝓣 N fours 3 (1 ∷ [])) a
        go (yes h) j = rw h (joined normal_nil normal_nil refl (sum_L (offset 𝓣 N fours 3 (1 ∷ [])) y (less_zeros y)))
        go (no h) (yes j) = rw j (joined (normal_put {r = []} refl (normal_keep refl normal_nil)) (normal_keep refl normal_nil) refl (sum_3 (offset 𝓣 N fours 2 (0 ∷ [])) (offset 𝓣 N fours 3 (1 ∷ [])) (less_zeros x) (less_zeros y)))
        go (no h) (no j) = rw (ne_eqb a L h, ne_eqb a S j) tt

    together : SelfProving 𝓣 N D
    together C m d a l = go (ℕ_discrete C 2) (ℕ_discrete C 3)
      where
        go : Dec (C ≡ 2) → Dec (C ≡ 3) → Agrees 𝓣 N D C m a
        go (yes h) j = known N fours D 2 (row 𝓣 N fours 2 (0 ∷ [])) refl good_2 C m d h a
        go (no h) (yes j) = known N fours D 3 (row 𝓣 N fours 3 (1 ∷ [])) refl good_3 C m d j a
        go (no h) (no j) = absurd (none_some {x = m} (rw (ne_eqb C 2 h, ne_eqb C 3 j) at d))

  pub examples : (x y z : T) → Examples 𝓣 x y z
  examples x y z = record {
    seven_first = seven_first 𝓣 x y z;
    four_first = four_first 𝓣 x y z;
    c_b_shaped = shaped_one 7 (λ A. length (sevens A)) c b (omega arith) (omega arith) refl;
    c_b_offset = c_b_offset x y z;
    c_b = lone_proves (seven 𝓣 x y z) sevens c (b ∷ []) (c_b x y z);
    q_k_shaped = shaped_one 7 (λ A. length (sevens A)) q k (omega arith) (omega arith) refl;
    q_k_offset = q_k_offset x y z;
    q_k_feet = refl;
    q_k = lone_proves (seven 𝓣 x y z) sevens q (k ∷ []) (q_k x y z);
    e_b_before = e_b_before x y z;
    e_b_not = e_b_not x y z;
    b_c = b_c;
    q_bb = refl;
    shaped_2 = shaped_one 4 (λ A. length (fours A)) 2 0 (omega arith) (omega arith) refl;
    shaped_3 = shaped_one 4 (λ A. length (fours A)) 3 1 (omega arith) (omega arith) refl;
    alone_2 = alone_2 x y;
    alone_3 = alone_3 x y;
    together = together x y;
  }
