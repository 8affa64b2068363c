-- Normal forms: there is one, and it goes along with appending.
--
-- The idea: each symbol of a row's word is earlier than the row's symbol, so putting words for symbols comes to an end; and at each symbol there is just one thing to do.
--
-- Assumes nothing.
use Rattle.std.proofs.Common.{◌≡◌, ℕ, zero, suc, ◌+◌, ◌*◌, ◌<◌, ◌≤◌, [], ◌∷◌, ◌++◌, Some, None, Option, sym, refl, ap, ◌∙◌, subst, ap₂, append_assoc, append-nil, mul-le-mul_right, arith}
use Rattle.std.specs.Option.{option_map}
use Rattle.tally.specs.Group.{Group}
use Rattle.grammar.specs.Meaning.{Word, Weighted, Each, Below}
use Rattle.grammar.proofs.Options.{none_some, some_none, some_same}
use Rattle.norm.specs.Norms.{norms}
use Rattle.rows.specs.Sheets.{Sheet, unweighed, Normal, normal_nil, normal_keep, normal_put, Shaped, Ranked}
use Rattle.rows.specs.Laws.{Total}

-- a word with a symbol
abbrev pub Filled : Word → Type 0
Filled [] = ⊥
Filled (A ∷ r) = Unit {0}

module _ {T : Type 0} (𝓣 : Group T) (D : Sheet T) where
  -- along equations of the word, the normal form and the sum
  pub from : {x y z : Word} {s : T} → x ≡ y → Normal 𝓣 D x z s → Normal 𝓣 D y z s
  from {z = z} {s = s} e f = subst (λ w. Normal 𝓣 D w z s) e f

  pub to : {x z v : Word} {s : T} → z ≡ v → Normal 𝓣 D x z s → Normal 𝓣 D x v s
  to {x = x} {s = s} e f = subst (λ w. Normal 𝓣 D x w s) e f

  pub by : {x z : Word} {s t : T} → s ≡ t → Normal 𝓣 D x z s → Normal 𝓣 D x z t
  by {x = x} {z = z} e f = subst (λ u. Normal 𝓣 D x z u) e f

  pub normal_once : {x z y : Word} {s t : T} → Normal 𝓣 D x z s → Normal 𝓣 D x y t → (z ≡ y) × (s ≡ t)
  normal_once normal_nil normal_nil = (refl, refl)
  normal_once (normal_keep {A = A} e f) (normal_keep d g) =
      let same = normal_once f g in
      (ap (λ v. A ∷ v) same.0, same.1)
  normal_once (normal_keep e f) (normal_put {m = n} d g) = absurd (none_some (sym e ∙ d))
  normal_once (normal_put {m = m} e f) (normal_keep d g) = absurd (some_none (sym e ∙ d))
  normal_once (normal_put {r = r} {m = m} e f) (normal_put {m = n} d g) =
      let moved : m ≡ n = some_same (sym e ∙ d) in
      let same = normal_once f (from (ap (λ (k : Weighted T). k.word ++ r) (sym moved)) g) in
      (same.0, ap₂ 𝓣.add (ap (λ (k : Weighted T). k.tally) moved) same.1)

  -- end to end
  pub normal_append : {x z y v : Word} {s t : T} → Normal 𝓣 D x z s → Normal 𝓣 D y v t → Normal 𝓣 D (x ++ y) (z ++ v) (𝓣.add s t)
  normal_append normal_nil h = rw 𝓣.left h
  normal_append (normal_keep e f) h = normal_keep e (normal_append f h)
  normal_append {y = y} (normal_put {r = r} {m = m} e f) h =
      rw 𝓣.assoc (normal_put e (from (append_assoc m.word r y) (normal_append f h)))

  -- a word with no marked symbol is its own
  abbrev pub Plain : Word → Type 0
  Plain = Each (λ A. D A ≡ None)

  pub normal_plain : {x z : Word} {s : T} → Normal 𝓣 D x z s → Plain z
  normal_plain normal_nil = tt
  normal_plain (normal_keep e f) = (e, normal_plain f)
  normal_plain (normal_put e f) = normal_plain f

  pub plain_normal : (z : Word) → Plain z → Normal 𝓣 D z z 𝓣.zero
  plain_normal [] p = normal_nil
  plain_normal (A ∷ z) p = normal_keep p.0 (plain_normal z p.1)

  -- where rows are not empty, a word that is not empty has a normal form that is not
  pub filled_append : (w r : Word) → Filled w → Filled (w ++ r)
  filled_append [] r h = absurd h
  filled_append (A ∷ w) r h = tt

  pub normal_filled : ((A : ℕ) (m : Weighted T) → D A ≡ Some m → Filled m.word) → {x z : Word} {s : T} → Normal 𝓣 D x z s → Filled x → Filled z
  normal_filled rows normal_nil h = h
  normal_filled rows (normal_keep e f) h = tt
  normal_filled rows (normal_put {A = A} {r = r} {m = m} e f) h = normal_filled rows f (filled_append m.word r (rows A m e))

-- A rank that falls from a symbol to each symbol of its row.
abbrev pub Falls : {T : Type 0} → Sheet T → (ℕ → ℕ) → Type 0
Falls {T} D rank = (A : ℕ) (m : Weighted T) → D A ≡ Some m → Each (λ B. rank B < rank A) m.word

pub each_map : {P Q : ℕ → Type 0} → ((A : ℕ) → P A → Q A) → (w : Word) → Each P w → Each Q w
each_map f [] h = tt
each_map f (A ∷ w) h = (f A h.0, each_map f w h.1)

abbrev pub Fulls : {T : Type 0} → Group T → Sheet T → Word → Type 0
Fulls {T} 𝓣 D x = (z : Word) × (s : T) × Normal 𝓣 D x z s

module _ {T : Type 0} (𝓣 : Group T) (D : Sheet T) where
  -- symbol by symbol
  pub word_total : {P : ℕ → Type 0} → ((A : ℕ) → P A → Fulls 𝓣 D (A ∷ [])) → (x : Word) → Each P x → Fulls 𝓣 D x
  word_total one [] h = ([], 𝓣.zero, normal_nil)
  word_total one (A ∷ r) h =
      let first = one A h.0 in
      let rest = word_total one r h.1 in
      (first.0 ++ rest.0, 𝓣.add first.1 rest.1, normal_append 𝓣 D first.2 rest.2)

  pub symbol_total : (A : ℕ) → ((m : Weighted T) → D A ≡ Some m → Fulls 𝓣 D m.word) → Fulls 𝓣 D (A ∷ [])
  symbol_total A row = go (D A) refl
    where
      go : (o : Option (Weighted T)) → D A ≡ o → Fulls 𝓣 D (A ∷ [])
      go None e = (A ∷ [], 𝓣.zero, normal_keep e normal_nil)
      go (Some m) e =
          let f = row m e in
          (f.0, 𝓣.add m.tally f.1, normal_put e (from 𝓣 D (sym (append-nil m.word)) f.2))

  module _ (rank : ℕ → ℕ) (falls : Falls D rank) where
    total_below : (n A : ℕ) → rank A < n → Fulls 𝓣 D (A ∷ [])
    total_below zero A h = absurd (omega arith)
    total_below (suc n) A h =
        symbol_total A (λ m e. word_total {P = λ B. rank B < n} (total_below n) m.word (each_map (λ B l. omega arith) m.word (falls A m e)))

    pub total : Total 𝓣 D
    total x = word_total {P = λ B. Unit {0}} (λ A u. total_below (suc (rank A)) A (omega arith)) x (each_any x)
      where
        each_any : (w : Word) → Each (λ B. Unit {0}) w
        each_any [] = tt
        each_any (A ∷ w) = (tt, each_any w)

-- The rank of symbols below n: by norm, then by number.
abbrev pub rank : ℕ → (ℕ → ℕ) → ℕ → ℕ
rank n norm A = norm A * n + A

module _ (n : ℕ) (norm : ℕ → ℕ) (positive : (A : ℕ) → A < n → 1 ≤ norm A) where
  -- each symbol of a word weighs at most what the word does
  pub each_weighs : (w : Word) → Below n w → (k : ℕ) → norms norm w ≤ k → Each (λ B. (B < n) × (norm B ≤ k)) w
  each_weighs [] h k l = tt
  each_weighs (B ∷ w) h k l = ((h.0, omega arith), each_weighs w h.1 k (omega arith))

  lighter : (A B : ℕ) → B < n → norm B < norm A → rank n norm B < rank n norm A
  lighter A B h l =
      let more : suc (norm B) * n ≤ norm A * n = mul-le-mul_right n l in
      omega arith

  pub shaped_falls : (A : ℕ) (w : Word) → Shaped n norm A w → Each (λ B. rank n norm B < rank n norm A) w
  shaped_falls A w sh = go w refl
    where
      go : (v : Word) → w ≡ v → Each (λ B. rank n norm B < rank n norm A) v
      go [] e = tt
      go (C ∷ []) e =
          let below : Below n (C ∷ []) = subst (Below n) e sh.below in
          let same : norms norm (C ∷ []) ≡ norm A = rw e at sh.weighs in
          let l = sh.lower C e in
          let d : norm C ≡ norm A = omega arith in
          (rw d (omega arith), tt)
      go (C ∷ B ∷ v) e =
          let below : Below n (C ∷ B ∷ v) = subst (Below n) e sh.below in
          let same : norms norm (C ∷ B ∷ v) ≡ norm A = rw e at sh.weighs in
          let b = positive B below.1.0 in
          let c = positive C below.0 in
          (lighter A C below.0 (omega arith), each_map (λ E h. lighter A E h.0 (omega arith)) (B ∷ v) (each_weighs (B ∷ v) below.1 (norms norm (B ∷ v)) (omega arith)))

  pub shaped_filled : (A : ℕ) (w : Word) → Shaped n norm A w → Filled w
  shaped_filled A w sh = go w refl
    where
      go : (v : Word) → w ≡ v → Filled v
      go [] e =
          let same : norms norm [] ≡ norm A = rw e at sh.weighs in
          let p = positive A sh.symbol in
          absurd (omega arith)
      go (C ∷ v) e = tt

  module _ {T : Type 0} (𝓣 : Group T) (D : Sheet T) (ranked : Ranked n norm (unweighed D)) where
    -- a row of the sheet is shaped
    pub row_shaped : (A : ℕ) (m : Weighted T) → D A ≡ Some m → Shaped n norm A m.word
    row_shaped A m e = ranked A m.word (ap (option_map (λ (k : Weighted T). k.word)) e)

    pub rows_filled : (A : ℕ) (m : Weighted T) → D A ≡ Some m → Filled m.word
    rows_filled A m e = shaped_filled A m.word (row_shaped A m e)

    pub ranked_total : Total 𝓣 D
    ranked_total = total 𝓣 D (rank n norm) (λ A m e. shaped_falls A m.word (row_shaped A m e))
