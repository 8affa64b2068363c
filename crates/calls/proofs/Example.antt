-- The worked calls over the example grammar with seven symbols.
--
-- The idea: what a rule of the grammar may be is looked up line by line; the pairs of each comparison are written down, before its one row is written and with it.
--
-- Assumes nothing.
use Rattle.std.proofs.Common.{◌≡◌, ℕ, zero, suc, ◌<◌, ◌≤◌, Bool, true, false, cond, ◌&&◌, eqb, eqb-true, eq-eqb, ne_eqb, List, [], ◌∷◌, reverse, length, get_or, replicate, is_some, Some, None, Option, Ok, Err, sym, refl, ap, ◌∙◌, subst, inl, inr, arith}
use native.Mathlib.Decide.{ℕ_discrete}
use Rattle.std.proofs.lemmas.Bool.{false≢true}
use Rattle.tally.specs.Group.{Group}
use Rattle.tally.proofs.Totals.{right}
use Rattle.grammar.specs.Meaning.{Word, Weighted, Meaning, Letter, Each, Below, WellFormed, word_of}
use Rattle.grammar.specs.Takes.{step, takes, Differ, only_first, by_tally}
use Rattle.grammar.proofs.Options.{none_some, some_none, some_same}
use Rattle.norm.specs.Words.{ran}
use Rattle.norm.specs.Norms.{norms, Taken, Normed}
use Rattle.norm.specs.declared.short_word.ShortWord.{ShortWord}
use Rattle.layout.specs.Contents.{All, rows_bytes}
use Rattle.rows.specs.Sheets.{View, Sheet, offset, weighed, Normal, normal_nil, normal_keep, normal_put, Agrees, SelfProving, Shaped, Ranked}
use Rattle.rows.specs.Example.{L, P, S, b, c, e, k, q, Line, line_at, seven_lines, seven, sevens, lone, row, alone}
use Rattle.rows.specs.Example as rows
use Rattle.rows.proofs.Example as worked
use Rattle.rows.proofs.Normals.{each_map}
use Rattle.sheet.specs.Rowed.{over}
use Rattle.sheet.specs.Candidates.{candidates}
use Rattle.sheet.proofs.Ended.{candidates_law}
use Rattle.survey.specs.Refusals.{Accepted, Sooner}
use Rattle.agreement.specs.Agreeing.{FirstWrong}
use Rattle.comparison.specs.Treating.{agrees, later_two, unlike_norms, unlike_sums}
use Rattle.comparison.specs.Treating as treating
use Rattle.comparison.specs.Turning.{row_sides, TreatsSides, AgreesAt, IsLook, Before, both, all_agree, first_wrong}
use Rattle.comparison.specs.declared.origin.Origin.{Origin}
use Rattle.comparison.specs.declared.origin.Origin.TheVariants.{Given, Row}
use Rattle.comparison.specs.declared.treatment.Treatment.TheVariants.{Agree, Different, Mend}
use Rattle.comparison.proofs.Agreements.{meets_agree}
use Rattle.comparison.proofs.Turns.{turned_given}
use Rattle.witness.proofs.Sums.{cancel}
use Rattle.calls.specs.Offers.{with_rows, rows_at, AllOf, FirstOf, Passes, Offered, marked, unlike, misses, disagrees, taken}
use Rattle.comparison.specs.Procedure.{Finds, Reached, begun, mended, SaysSame, SaysDifferent}
use Rattle.calls.specs.Histories.{compare_refused, compare_same, compare_different, offer_refused, offer_taken, clear_all, run_answered, copy_written, History, new, then}
use Rattle.calls.specs.Example.{size, f, one_row, nothing, calls_made, Examples}
use Rattle.calls.specs.declared.fault.CallFault.TheVariants.{ShortBuffer, Marked, Unlike, Misses, Disagrees}
use Rattle.calls.specs.declared.test.Test.{Test}
use Rattle.calls.specs.declared.test.Test.TheVariants.{Free, Like, TakesFirst}
use Rattle.calls.proofs.Ground.{weighed_word, weighed_ranked}
use Rattle.calls.proofs.Taking.{row_from}
use Rattle.calls.proofs.Comparisons.{mend_agree}

module _ {T : Type 0} (Q : ℕ → ℕ → Word → Type 0) where
  -- what holds of each line holds of each rule
  abbrev Lines : List (Line T) → Type 0
  Lines [] = Unit {0}
  Lines (l ∷ ls) = Q l.symbol l.letter l.word × Lines ls

  at_line : (ls : List (Line T)) → Lines ls → (A a : ℕ) (m : Weighted T) → line_at A a ls ≡ Some m → Q A a m.word
  at_line [] h A a m d = absurd (none_some d)
  at_line (l ∷ ls) h A a m d = go (eqb A l.symbol) (eqb a l.letter) refl refl d (at_line ls h.1 A a m)
    where
      go : (s t : Bool) → eqb A l.symbol ≡ s → eqb a l.letter ≡ t → cond (s && t) (Some (record { word = l.word; tally = l.tally })) (line_at A a ls) ≡ Some m →
          (line_at A a ls ≡ Some m → Q A a m.word) → Q A a m.word
      go true true f g d rest =
          subst (λ (n : Weighted T). Q A a n.word) (some_same d) (subst (λ B. Q B a l.word) (sym (eqb-true A l.symbol f)) (subst (λ x. Q l.symbol x l.word) (sym (eqb-true a l.letter g)) h.0))
      go true false f g d rest = rest d
      go false t f g d rest = rest d

-- what holds of each element holds at each place
get_all : {X : Type 0} (P : X → Type 0) (d : X) → P d → (xs : List X) → All P xs → (i : ℕ) → P (get_or xs i d)
get_all P d none [] h i = none
get_all P d none (x ∷ xs) h zero = h.0
get_all P d none (x ∷ xs) h (suc i) = get_all P d none xs h.1 i

-- a rule of the grammar
abbrev Well : ℕ → ℕ → Word → Type 0
Well A a w = (A < 7) × Letter a × (length w ≤ 4) × Below 7 w

letter : (a : ℕ) → 65 ≤ a → a ≤ 90 → Letter a
letter a low high = (low, high)

short_inputs : (A : ℕ) → size A ≤ 64
short_inputs A =
    get_all (λ s. length s ≤ 64) [] (omega arith) ((L ∷ []) ∷ (L ∷ []) ∷ (L ∷ L ∷ []) ∷ (L ∷ []) ∷ (L ∷ []) ∷ (P ∷ L ∷ []) ∷ (P ∷ L ∷ []) ∷ [])
    (omega arith, (omega arith, (omega arith, (omega arith, (omega arith, (omega arith, (omega arith, tt))))))) A

-- one row in no rows
over_none : (o : Option Word) → over (over None o) None ≡ o
over_none None = refl
over_none (Some w) = refl

one_view : (A : ℕ) (w : Word) → with_rows nothing (one_row A w) ≡ lone A w
one_view A w = λ i C. over_none (lone A w C) i

lone_here : (A : ℕ) (w : Word) (C : ℕ) (v : Word) → lone A w C ≡ Some v → (C ≡ A) × (w ≡ v)
lone_here A w C v d = go (ℕ_discrete C A)
  where
    go : Dec (C ≡ A) → (C ≡ A) × (w ≡ v)
    go (yes h) = (h, some_same (sym (ap (λ b. cond b (Some w) None) (eq-eqb C A h)) ∙ d))
    go (no h) = absurd (none_some (sym (ap (λ b. cond b (Some w) None) (ne_eqb C A h)) ∙ d))

lone_ranked : (n : ℕ) (norm : ℕ → ℕ) (A : ℕ) (w : Word) → Shaped n norm A w → Ranked n norm (lone A w)
lone_ranked n norm A w shaped C v d = let h = lone_here A w C v d in rw (h.0, ← h.1) shaped

-- the word of a row with one symbol
abbrev one_word : ℕ → ShortWord 64
one_word B = record { symbols = B ∷ replicate 63 0; len = 1; within = omega arith; room = refl }

-- no rows
nothing_ranked : (n : ℕ) (norm : ℕ → ℕ) → Ranked n norm nothing
nothing_ranked n norm A w e = absurd (none_some e)

-- what holds of the one row holds of each row of its view
all_one : (P : ℕ → Word → Type 0) (A : ℕ) (w : Word) → P A w → AllOf P (rows_at (one_row A w))
all_one P A w h C v e = row_from (λ r. P r.symbol r.word) C (one_row A w) v (h, tt) e

-- and it is the first
first_one : (P : ℕ → Word → Type 0) (A : ℕ) (w : Word) → P A w → FirstOf P (rows_at (one_row A w)) A
first_one P A w h = record {
  word = w;
  is = ap (λ t. over None (cond t (Some w) None)) (eq-eqb A A refl);
  here = h;
  before = λ B v l e. absurd (none_some (sym (ap (λ t. over None (cond t (Some w) None)) (ne_eqb B A (λ d. omega arith))) ∙ e));
}

-- tallies without a difference are equal
no_difference : {T : Type 0} (𝓣 : Group T) (t u : T) → 𝓣.add t (𝓣.neg u) ≡ 𝓣.zero → t ≡ u
no_difference 𝓣 t u h = sym (right 𝓣 t) ∙ ap (𝓣.add t) (sym (𝓣.inverse u)) ∙ sym (𝓣.assoc t (𝓣.neg u) u) ∙ ap (λ v. 𝓣.add v u) h ∙ 𝓣.left u

module _ {T : Type 0} (𝓣 : Group T) (x y z : T) where
  abbrev M : Meaning T
  M = seven 𝓣 x y z

  abbrev known : rows.Examples 𝓣 x y z
  known = worked.examples 𝓣 x y z

  lines_well : Lines Well (seven_lines 𝓣 x y z)
  lines_well =
      let u : 0 < 7 = omega arith in
      let v : 1 < 7 = omega arith in
      let l : Letter L = letter L (omega arith) (omega arith) in
      let p : Letter P = letter P (omega arith) (omega arith) in
      let s : Letter S = letter S (omega arith) (omega arith) in (
        (omega arith, l, omega arith, tt),
        (
          (omega arith, s, omega arith, (u, (u, tt))),
          (
            (omega arith, l, omega arith, tt),
            (
              (omega arith, s, omega arith, (u, (v, tt))),
              (
                (omega arith, l, omega arith, (u, tt)),
                (
                  (omega arith, s, omega arith, (u, (u, (u, tt)))),
                  (
                    (omega arith, l, omega arith, tt),
                    (
                      (omega arith, s, omega arith, (u, (u, (u, tt)))),
                      (
                        (omega arith, l, omega arith, tt),
                        (
                          (omega arith, s, omega arith, (u, (u, tt))),
                          ((omega arith, p, omega arith, (u, tt)), ((omega arith, p, omega arith, (u, tt)), tt)),
                        ),
                      ),
                    ),
                  ),
                ),
              ),
            ),
          ),
        ),
      )

  rule_well : (P : Option (Weighted T) → Type 0) (A a : ℕ) → P None → ((m : Weighted T) → Well A a m.word → P (Some m)) → P (M.rule A a)
  rule_well P A a none some = go (M.rule A a) refl
    where
      go : (o : Option (Weighted T)) → M.rule A a ≡ o → P o
      go None d = none
      go (Some m) d = some m (at_line Well (seven_lines 𝓣 x y z) lines_well A a m d)

  well_formed : WellFormed M
  well_formed = record {
    few = omega arith;
    counted = λ A a. rule_well (λ o. is_some o ≡ true → A < 7) A a (λ d. absurd (false≢true d)) (λ m h d. h.0);
    lettered = λ A a. rule_well (λ o. is_some o ≡ true → Letter a) A a (λ d. absurd (false≢true d)) (λ m h d. h.1);
    short = λ A a. rule_well (λ o. length (word_of o) ≤ 255) A a (omega arith) (λ m h. let l = h.2 in omega arith);
    bytes = λ A a. rule_well (λ o. Each (λ B. B ≤ 255) (word_of o)) A a tt (λ m h. each_map (λ B l. omega arith) m.word h.3);
  }

  accepted : Accepted 32 64 𝓣 M
  accepted = record {
    sized = record { some = omega arith; few = omega arith };
    rules = λ A a. record {
      short = rule_well (λ o. length (word_of o) ≤ 4) A a (omega arith) (λ m h. h.2);
      known = rule_well (λ o. Below 7 (word_of o)) A a tt (λ m h. h.3);
    };
    norms = λ A l. (sevens A, (known.seven_first A l).taken, short_inputs A);
  }

  normed : Normed 𝓣 M size sevens
  normed = record { first_input = known.seven_first; size = λ A l. refl }

  -- without rows a word is its own normal form
  empty_form : (w : Word) → Normal 𝓣 (weighed 𝓣 M sevens nothing) w w 𝓣.zero
  empty_form [] = normal_nil
  empty_form (A ∷ w) = normal_keep refl (empty_form w)

  -- where two words begin with B and with a later symbol A, and each of these takes the other's first input, the row A → B is written
  first_row : (A B : ℕ) (v w : Word) (t : T) → B < A → size B ≡ size A → norms size (B ∷ v) ≡ norms size (A ∷ w) →
      ran 𝓣 M (A ∷ []) (sevens B) ≡ Some (record { word = []; tally = t }) → Taken 𝓣 M (B ∷ []) (sevens A) →
      Reached 𝓣 M size sevens (B ∷ v) (A ∷ w) nothing (lone A (B ∷ []))
  first_row A B v w t later norm weighs run takes = mended begun Given A (one_word B) turn (λ C. refl)
    where
      turn : Finds 𝓣 M size sevens (B ∷ v) (A ∷ w) nothing (Some (Given, Mend A (one_word B)))
      turn =
          turned_given 𝓣 M size sevens (weighed 𝓣 M sevens nothing) (B ∷ v) (A ∷ w) (Mend A (one_word B))
          (both _ _ refl refl (later_two (B ∷ v) (A ∷ w) _ _ B A (Mend A (one_word B)) weighs (empty_form (B ∷ v)) (empty_form (A ∷ w))
          (record { common = []; left = v; right = w; one = refl; two = refl; apart = λ d. omega arith }) (inr (norm, later))
          (treating.row (record { word = []; tally = t }) (one_word B) run (omega arith) takes refl)))
          mend_agree

  module _ (V : View) (ranked : Ranked 7 size V) (v w : Word) where
    -- where a row agrees, the pair that is looked at does
    row_agrees : (A a : ℕ) (l : IsLook (weighed 𝓣 M sevens V) (Row A a)) → Agrees 𝓣 M (weighed 𝓣 M sevens V) A l.0 a → AgreesAt 𝓣 M size sevens (weighed 𝓣 M sevens V) v w (Row A a)
    row_agrees A a l h =
        subst (λ (p : Option (Weighted T) × Option (Weighted T)). TreatsSides 𝓣 M size sevens (weighed 𝓣 M sevens V) p.0 p.1 Agree) (sym (ap (row_sides 𝓣 M (weighed 𝓣 M sevens V) A a) l.1))
        (meets_agree 𝓣 M size sevens (weighed 𝓣 M sevens V) (weighed_ranked 𝓣 M sevens V 7 size ranked) l.0.tally (M.rule A a) (step M l.0.word a) h)

    -- rows that prove themselves agree everywhere
    all_turned : SelfProving 𝓣 M (weighed 𝓣 M sevens V) → AgreesAt 𝓣 M size sevens (weighed 𝓣 M sevens V) v w Given → Finds 𝓣 M size sevens v w V None
    all_turned proving given = all_agree at
      where
        at : (o : Origin) → IsLook (weighed 𝓣 M sevens V) o → AgreesAt 𝓣 M size sevens (weighed 𝓣 M sevens V) v w o
        at Given l = given
        at (Row A a) l = row_agrees A a l (proving A l.0 l.1 a l.2)

  -- with the row A → b the words b and A have one normal form, and with no offset one sum
  given_agrees : (A : ℕ) → 1 ≡ size A → alone 𝓣 M sevens A (b ∷ []) b ≡ None → alone 𝓣 M sevens A (b ∷ []) A ≡ Some (row 𝓣 M sevens A (b ∷ [])) → offset 𝓣 M sevens A (b ∷ []) ≡ 𝓣.zero →
      AgreesAt 𝓣 M size sevens (alone 𝓣 M sevens A (b ∷ [])) (b ∷ []) (A ∷ []) Given
  given_agrees A norm free here none =
      both _ _ refl refl (agrees (b ∷ []) 𝓣.zero _ (omega arith) (normal_keep free normal_nil) (normal_put {r = []} here (normal_keep free normal_nil))
      (ap (𝓣.add 𝓣.zero) (sym (𝓣.left 𝓣.zero) ∙ ap (λ t. 𝓣.add t 𝓣.zero) (sym none))))

  -- the words B and A are different where the row A → B has an offset
  by_offset : (A B : ℕ) (t : T) → B < A → size B ≡ size A → ran 𝓣 M (A ∷ []) (sevens B) ≡ Some (record { word = []; tally = t }) → Taken 𝓣 M (B ∷ []) (sevens A) →
      alone 𝓣 M sevens A (B ∷ []) B ≡ None → alone 𝓣 M sevens A (B ∷ []) A ≡ Some (row 𝓣 M sevens A (B ∷ [])) → ¬ (offset 𝓣 M sevens A (B ∷ []) ≡ 𝓣.zero) →
      SaysDifferent 𝓣 M size sevens (B ∷ []) (A ∷ []) nothing
  by_offset A B t later norm run takes free here some = record {
    rows = lone A (B ∷ []);
    reached = first_row A B [] [] t later norm (omega arith) run takes;
    origin = Given;
    finds =
        turned_given 𝓣 M size sevens (alone 𝓣 M sevens A (B ∷ [])) (B ∷ []) (A ∷ []) Different
        (both _ _ refl refl (unlike_sums (B ∷ []) 𝓣.zero _ (omega arith) (normal_keep free normal_nil) (normal_put {r = []} here (normal_keep free normal_nil)) unlike))
        (λ d. cc);
  }
    where
      unlike : ¬ (𝓣.add 𝓣.zero 𝓣.zero ≡ 𝓣.add 𝓣.zero (𝓣.add (offset 𝓣 M sevens A (B ∷ [])) 𝓣.zero))
      unlike h = some (sym (right 𝓣 (offset 𝓣 M sevens A (B ∷ []))) ∙ sym (cancel 𝓣 𝓣.zero 𝓣.zero (𝓣.add (offset 𝓣 M sevens A (B ∷ [])) 𝓣.zero) h))

  -- b and c: the row c → b proves itself
  same_b_c : SaysSame 𝓣 M size sevens (b ∷ []) (c ∷ []) nothing (lone c (b ∷ []))
  same_b_c = record {
    reached = first_row c b [] [] _ (omega arith) refl refl refl (_, refl);
    agree = all_turned (lone c (b ∷ [])) (lone_ranked 7 size c (b ∷ []) known.c_b_shaped) (b ∷ []) (c ∷ []) known.c_b (given_agrees c refl refl refl known.c_b_offset);
  }

  -- b and e: the row e → b agrees before S, and at S the words have two norms
  abbrev E : Sheet T
  E = alone 𝓣 M sevens e (b ∷ [])

  e_b_first : FirstWrong 𝓣 M E e S
  e_b_first = record { row = row 𝓣 M sevens e (b ∷ []); is = refl; letter = letter S (omega arith) (omega arith); here = known.e_b_not; before = before }
    where
      at : (B : ℕ) (m : Weighted T) (a : ℕ) → B ≡ e → E B ≡ Some m → a < S → Agrees 𝓣 M E B m a
      at B m a h d l =
          let same : row 𝓣 M sevens e (b ∷ []) ≡ m = some_same (sym (ap E h) ∙ d) in
          subst (λ C. Agrees 𝓣 M E C m a) (sym h) (subst (λ (n : Weighted T). Agrees 𝓣 M E e n a) same (known.e_b_before a l))

      before : (B : ℕ) (m : Weighted T) (a : ℕ) → E B ≡ Some m → Letter a → Sooner B a e S → Agrees 𝓣 M E B m a
      before B m a d l (inl s) = absurd (let h = (lone_here e (b ∷ []) B m.word (weighed_word 𝓣 M sevens (lone e (b ∷ [])) B m d)).0 in omega arith)
      before B m a d l (inr s) = at B m a s.0 d s.1

  e_shaped : Shaped 7 size e (b ∷ [])
  e_shaped = record { symbol = omega arith; below = (omega arith, tt); weighs = refl; lower = λ C d. (let h = ap (λ w. get_or w 0 0) d in omega arith) }

  wrong_turn : Finds 𝓣 M size sevens (b ∷ []) (e ∷ []) (lone e (b ∷ [])) (Some (Row e S, Different))
  wrong_turn = first_wrong (Row e S) Different (row 𝓣 M sevens e (b ∷ []), refl, letter S (omega arith) (omega arith)) (both _ _ refl refl (unlike_norms (λ d. omega arith))) (λ d. cc) before
    where
      before : (u : Origin) → IsLook E u → Before u (Row e S) → AgreesAt 𝓣 M size sevens E (b ∷ []) (e ∷ []) u
      before Given l s = given_agrees e refl refl refl (𝓣.comm (𝓣.add x 𝓣.zero) (𝓣.neg (𝓣.add x 𝓣.zero)) ∙ 𝓣.inverse (𝓣.add x 𝓣.zero))
      before (Row A a) l s = row_agrees (lone e (b ∷ [])) (lone_ranked 7 size e (b ∷ []) e_shaped) (b ∷ []) (e ∷ []) A a l (e_b_first.before A l.0 a l.1 l.2 s)

  different_b_e : SaysDifferent 𝓣 M size sevens (b ∷ []) (e ∷ []) nothing
  different_b_e = record {
    rows = lone e (b ∷ []);
    reached = first_row e b [] [] _ (omega arith) refl refl refl (_, refl);
    origin = Row e S;
    finds = wrong_turn;
  }

  b_e_differ : Differ 𝓣 M (b ∷ []) (e ∷ []) (S ∷ L ∷ L ∷ [])
  b_e_differ = only_first _ refl refl

  -- b and f: without an offset of f → b the tallies at L are equal
  b_f_equal : offset 𝓣 M sevens f (b ∷ []) ≡ 𝓣.zero → x ≡ y
  b_f_equal none = sym (right 𝓣 x) ∙ sym (no_difference 𝓣 (𝓣.add y 𝓣.zero) (𝓣.add x 𝓣.zero) none) ∙ right 𝓣 y

  different_b_f : ¬ (x ≡ y) → SaysDifferent 𝓣 M size sevens (b ∷ []) (f ∷ []) nothing
  different_b_f apart = by_offset f b _ (omega arith) refl refl (_, refl) refl refl (λ none. apart (b_f_equal none))

  b_takes : takes 𝓣 M (b ∷ []) (L ∷ []) ≡ Some x
  b_takes = ap {B = Option T} Some (right 𝓣 x)

  f_takes : takes 𝓣 M (f ∷ []) (L ∷ []) ≡ Some y
  f_takes = ap {B = Option T} Some (right 𝓣 y)

  -- kq and qk come to kk, each with the offset once
  same_kq_qk : SaysSame 𝓣 M size sevens (k ∷ q ∷ []) (q ∷ k ∷ []) nothing (lone q (k ∷ []))
  same_kq_qk = record {
    reached = first_row q k (q ∷ []) (k ∷ []) _ (omega arith) refl refl refl (_, refl);
    agree = all_turned (lone q (k ∷ [])) (lone_ranked 7 size q (k ∷ []) known.q_k_shaped) (k ∷ q ∷ []) (q ∷ k ∷ []) known.q_k
        (both _ _ refl refl (agrees (k ∷ k ∷ []) _ _ refl (normal_keep refl (normal_put {r = []} refl (normal_keep refl normal_nil))) (normal_put {r = k ∷ []} refl (normal_keep refl (normal_keep refl normal_nil))) refl));
  }

  different_k_q : ¬ (z ≡ 𝓣.zero) → SaysDifferent 𝓣 M size sevens (k ∷ []) (q ∷ []) nothing
  different_k_q some =
      by_offset q k _ (omega arith) refl refl (_, refl) refl refl
      (λ none. some (sym (𝓣.left z) ∙ ap (λ t. 𝓣.add t z) (sym none ∙ known.q_k_offset) ∙ 𝓣.inverse z))

  k_q_differ : ¬ (z ≡ 𝓣.zero) → Differ 𝓣 M (k ∷ []) (q ∷ []) (P ∷ L ∷ [])
  k_q_differ some =
      let t : T = 𝓣.add x 𝓣.zero in
      by_tally (𝓣.add z t) (𝓣.add 𝓣.zero t) refl refl (λ h. some (cancel 𝓣 t z 𝓣.zero (𝓣.comm t z ∙ h ∙ 𝓣.comm 𝓣.zero t)))

  -- the empty word
  same_empty : SaysSame 𝓣 M size sevens [] [] nothing nothing
  same_empty = record {
    reached = begun;
    agree = all_turned nothing (nothing_ranked 7 size) [] [] (λ A m e. absurd (none_some e)) (both _ _ refl refl (agrees [] 𝓣.zero 𝓣.zero refl normal_nil normal_nil refl));
  }

  different_empty_b : SaysDifferent 𝓣 M size sevens [] (b ∷ []) nothing
  different_empty_b = record {
    rows = nothing;
    reached = begun;
    origin = Given;
    finds = turned_given 𝓣 M size sevens (weighed 𝓣 M sevens nothing) [] (b ∷ []) Different (both _ _ refl refl (unlike_norms (λ d. omega arith))) (λ d. cc);
  }

  -- the candidates of one row
  read_row : (A B : ℕ) (w : Word) → A < 7 → Below 7 (B ∷ w) → length (B ∷ w) ≤ 64 → candidates 7 (rows_bytes (one_row A (B ∷ w))) ≡ Ok (one_row A (B ∷ w))
  read_row A B w symbol word short =
      (candidates_law 7 (rows_bytes (one_row A (B ∷ w))) (one_row A (B ∷ w))).1
      (record { few = omega arith; each = (record { symbol = symbol; filled = omega arith; short = short; word = word }, tt); rising = tt }, refl)

  -- the row of a view with one row
  one_proving : (A : ℕ) (w : Word) → SelfProving 𝓣 M (alone 𝓣 M sevens A w) → SelfProving 𝓣 M (weighed 𝓣 M sevens (with_rows nothing (one_row A w)))
  one_proving A w h = subst (λ (V : View). SelfProving 𝓣 M (weighed 𝓣 M sevens V)) (sym (one_view A w)) h

  passes : (t : Test) (A : ℕ) (w : Word) → Passes 𝓣 M size sevens nothing t A w → AllOf (Passes 𝓣 M size sevens nothing t) (rows_at (one_row A w))
  passes t = all_one (Passes 𝓣 M size sevens nothing t)

  offered_again : Offered 𝓣 M size sevens (lone c (b ∷ [])) (1 ∷ 1 ∷ 1 ∷ 0 ∷ []) (Err (Marked c))
  offered_again =
      marked (one_row c (b ∷ [])) c (read_row c b [] (omega arith) (omega arith, tt) (omega arith))
      (first_one (λ A w. ¬ Passes 𝓣 M size sevens (lone c (b ∷ [])) Free A w) c (b ∷ []) (λ free. some_none free))

  offered_q_k : Offered 𝓣 M size sevens nothing (1 ∷ 6 ∷ 1 ∷ 5 ∷ []) (Ok (one_row q (k ∷ [])))
  offered_q_k =
      taken (one_row q (k ∷ [])) (read_row q k [] (omega arith) (omega arith, tt) (omega arith)) (passes Free q (k ∷ []) refl)
      (passes Like q (k ∷ []) (record { weighs = refl; lower = known.q_k_shaped.lower })) (passes TakesFirst q (k ∷ []) (_, refl)) (one_proving q (k ∷ []) known.q_k)

  -- offers that are refused: the row is unlike its symbol, misses its first input, or disagrees
  offered_b_c : Offered 𝓣 M size sevens nothing (1 ∷ 0 ∷ 1 ∷ 1 ∷ []) (Err (Unlike b))
  offered_b_c =
      unlike (one_row b (c ∷ [])) b (read_row b c [] (omega arith) (omega arith, tt) (omega arith)) (passes Free b (c ∷ []) refl)
      (first_one (λ A w. ¬ Passes 𝓣 M size sevens nothing Like A w) b (c ∷ []) (λ h. (let l : c < b = h.lower c refl in omega arith)))

  offered_q_bb : Offered 𝓣 M size sevens nothing (1 ∷ 6 ∷ 2 ∷ 0 ∷ 0 ∷ []) (Err (Misses q))
  offered_q_bb =
      misses (one_row q (b ∷ b ∷ [])) q (read_row q b (b ∷ []) (omega arith) (omega arith, (omega arith, tt)) (omega arith)) (passes Free q (b ∷ b ∷ []) refl)
      (passes Like q (b ∷ b ∷ []) (record { weighs = refl; lower = λ C d. absurd (let h = ap length d in omega arith) }))
      (first_one (λ A w. ¬ Passes 𝓣 M size sevens nothing TakesFirst A w) q (b ∷ b ∷ []) (λ t. none_some (sym known.q_bb ∙ t.1)))

  e_b_wrong : FirstWrong 𝓣 M (weighed 𝓣 M sevens (with_rows nothing (one_row e (b ∷ [])))) e S
  e_b_wrong = subst (λ (V : View). FirstWrong 𝓣 M (weighed 𝓣 M sevens V) e S) (sym (one_view e (b ∷ []))) e_b_first

  offered_e_b : Offered 𝓣 M size sevens nothing (1 ∷ 3 ∷ 1 ∷ 0 ∷ []) (Err (Disagrees (record { symbol = e; letter = S })))
  offered_e_b =
      disagrees (one_row e (b ∷ [])) (record { symbol = e; letter = S }) (read_row e b [] (omega arith) (omega arith, tt) (omega arith)) (passes Free e (b ∷ []) refl)
      (passes Like e (b ∷ []) (record { weighs = refl; lower = e_shaped.lower })) (passes TakesFirst e (b ∷ []) (_, refl)) e_b_wrong

  history : History 𝓣 M size sevens (reverse (calls_made 𝓣 x)) (lone q (k ∷ []))
  history =
      then (then (then (then (then (then (then (then (new nothing (λ A. refl)) _
      (compare_different (b ∷ []) (e ∷ []) 16384 (S ∷ L ∷ L ∷ []) nothing refl different_b_e b_e_differ (omega arith) (λ A. refl))) _
      (compare_same (b ∷ []) (c ∷ []) 16384 (lone c (b ∷ [])) refl same_b_c)) _
      (compare_refused (b ∷ []) (c ∷ []) 100 (ShortBuffer 100) (lone c (b ∷ [])) refl (λ A. refl))) _
      (offer_refused (1 ∷ 1 ∷ 1 ∷ 0 ∷ []) (Marked c) (lone c (b ∷ [])) offered_again (λ A. refl))) _
      (clear_all nothing (λ A. refl))) _
      (offer_taken (1 ∷ 6 ∷ 1 ∷ 5 ∷ []) (one_row q (k ∷ [])) (lone q (k ∷ [])) offered_q_k (λ A. sym (over_none (lone q (k ∷ []) A))))) _
      (run_answered (b ∷ []) (L ∷ []) (lone q (k ∷ [])) refl (λ A. refl))) _
      (copy_written 2047 (lone q (k ∷ [])) refl (λ A. refl))

  pub examples : Examples 𝓣 x y z
  examples = record {
    well_formed = well_formed;
    accepted = accepted;
    normed = normed;
    b_c = same_b_c;
    b_e = different_b_e;
    b_e_input = b_e_differ;
    b_takes = ap {B = Option T} Some (𝓣.left (𝓣.add x (𝓣.add x 𝓣.zero)) ∙ ap (𝓣.add x) (right 𝓣 x));
    b_f = different_b_f;
    b_f_input = by_tally x y b_takes f_takes;
    b_takes_first = b_takes;
    f_takes_first = f_takes;
    kq_qk = same_kq_qk;
    q_k_offset = known.q_k_offset;
    k_q = different_k_q;
    k_q_input = k_q_differ;
    empty_empty = same_empty;
    empty_b = different_empty_b;
    empty_b_input = only_first 𝓣.zero refl refl;
    bb_takes = refl;
    b_misses = refl;
    b_c_offer = offered_b_c;
    q_bb_offer = offered_q_bb;
    e_b_offer = offered_e_b;
    history = history;
  }
