-- What a comparison that is not refused tells of its two words.
--
-- The idea: the law of the comparison says all that is asked for. And words that may be compared may be run, on every input that a comparison shows; so the verdicts are what the words take.
--
-- Assumes nothing.
use Rattle.std.proofs.Common.{◌≡◌, ℕ, ◌≤◌, ◌↔◌, Bool, true, false, nat_lt, List, [], ◌∷◌, length, take, Some, None, Option, Ok, Err, Result, sym, refl, ap, ◌∙◌, subst, le-ltb, ltb-false}
use Rattle.std.specs.Option.{option_map}
use Rattle.tally.specs.Group.{Group}
use Rattle.grammar.specs.Meaning.{Word, Input}
use Rattle.grammar.specs.Takes as taking
use Rattle.grammar.proofs.Options.{some_none}
use Rattle.layout.proofs.Steps.{ok_err, err_same}
use Rattle.rows.specs.Sheets.{weighed, Proves}
use Rattle.survey.specs.Surveyed.{surveyed, first_in}
use Rattle.survey.specs.declared.table.Survey.{Survey}
use Rattle.calls.specs.Refusals.{first_of, when, too_long, stray_from, strays, compare_fault, run_fault}
use Rattle.calls.specs.Histories.{Event, compared}
use Rattle.calls.specs.Laws as laws
use Rattle.calls.specs.declared.answer.Answer.{Answer}
use Rattle.calls.specs.declared.answer.Answer.TheVariants.{Same, Different}
use Rattle.calls.specs.declared.fault.CallFault.{CallFault}
use Rattle.calls.specs.declared.fault.CallFault.TheVariants.{LongWord, StraySymbol, LongInput, ShortBuffer}
use Rattle.comparer.specs.Comparers.{rows_of, Over, comparing}
use Rattle.comparer.specs.Lawful.{HistoryOver, Lawful}
use Rattle.comparer.specs.declared.comparer.Comparer.{Comparer}

-- a refusal as one of another call
pub err_moves : {X Y E : Type 0} {P : E → Type 0} (f : E) → ((g : E) → (◌≡◌ {A = Result X E} (Err f) (Err g)) ↔ P g) → (g : E) → (◌≡◌ {A = Result Y E} (Err f) (Err g)) ↔ P g
err_moves {X = X} {E = E} f same g = (λ e. (same g).0 (ap {B = Result X E} Err (err_same e)), λ p. ap Err (err_same ((same g).1 p)))

-- what is answered is refused for nothing
pub ok_moves : {X Y E : Type 0} {P : E → Type 0} (r : Result X E) (x : X) (y : Y) → r ≡ Ok x → ((g : E) → (r ≡ Err g) ↔ P g) → (g : E) → (◌≡◌ {A = Result Y E} (Ok y) (Err g)) ↔ P g
ok_moves r x y e same g = (λ d. absurd (ok_err d), λ p. absurd (ok_err (sym e ∙ (same g).1 p)))

-- nothing is wrong where no fault is
pub no_fault : {E : Type 0} (o : Option E) → ((f : E) → ¬ (o ≡ Some f)) → o ≡ None
no_fault None h = refl
no_fault (Some f) h = absurd (h f refl)

split : (a b c d e : Option CallFault) → first_of (a ∷ b ∷ c ∷ d ∷ e ∷ []) ≡ None → (a ≡ None) × (b ≡ None) × (c ≡ None) × (d ≡ None) × (e ≡ None)
split (Some f) b c d e h = absurd (some_none h)
split None (Some f) c d e h = absurd (some_none h)
split None None (Some f) d e h = absurd (some_none h)
split None None None (Some f) e h = absurd (some_none h)
split None None None None (Some f) h = absurd (some_none h)
split None None None None None h = (refl, refl, refl, refl, refl)

when_any : (b : Bool) (f g : CallFault) → when b f ≡ None → when b g ≡ None
when_any true f g e = absurd (some_none e)
when_any false f g e = refl

when_false : (b : Bool) (f : CallFault) → when b f ≡ None → b ≡ false
when_false true f e = absurd (some_none e)
when_false false f e = refl

map_any : (o : Option ℕ) (f g : ℕ → CallFault) → option_map f o ≡ None → option_map g o ≡ None
map_any None f g e = refl
map_any (Some k) f g e = absurd (some_none e)

run_free : (n : ℕ) (w : Word) (s : Input) → too_long 1 w ≡ None → strays 1 n w ≡ None → length s ≤ 16384 → run_fault n w s ≡ None
run_free n w s long stray short = go (too_long 1 w) (strays 1 n w) (nat_lt 16384 (length s)) long stray (le-ltb 16384 (length s) short)
  where
    go : (a b : Option CallFault) (t : Bool) → a ≡ None → b ≡ None → t ≡ false → first_of (a ∷ b ∷ when t (LongInput (length s)) ∷ []) ≡ None
    go (Some f) b t h k l = absurd (some_none h)
    go None (Some f) t h k l = absurd (some_none k)
    go None None t h k l = ap (λ t. first_of (None ∷ None ∷ when t (LongInput (length s)) ∷ [])) l

-- what may be compared may be run, and the buffer has room
pub record Free (n : ℕ) (x y : Word) (room : ℕ) : Type 0 where
  pub one : (s : Input) → length s ≤ 16384 → run_fault n x s ≡ None
  pub two : (s : Input) → length s ≤ 16384 → run_fault n y s ≡ None
  pub fits : 16384 ≤ room

pub free : (n : ℕ) (x y : Word) (room : ℕ) → ((f : CallFault) → ¬ (compare_fault n x y room ≡ Some f)) → Free n x y room
free n x y room never =
    let none = no_fault (compare_fault n x y room) never in
    let p = split (too_long 1 x) (too_long 2 y) (strays 1 n x) (strays 2 n y) (when (nat_lt room 16384) (ShortBuffer room)) none in
    record {
      one = λ s short. run_free n x s p.0 p.2 short;
      two = λ s short. run_free n y s (when_any (nat_lt 8 (length y)) (LongWord 2 (length y)) (LongWord 1 (length y)) p.1) (map_any (stray_from 0 n y) (λ k. StraySymbol 2 k) (λ k. StraySymbol 1 k) p.3) short;
      fits = ltb-false room 16384 (when_false (nat_lt room 16384) (ShortBuffer room) p.4);
    }

module _ {T : Type 0} (𝓣 : Group T) (c d : Comparer T) (x y : Word) (room : ℕ) (o : List ℕ) (r : Result Answer CallFault) (lawful : Lawful 𝓣 c (compared x y room (comparing r o)) d)
    (s : Survey T) (over : Over c s) (es : List (Event T)) (h : HistoryOver 𝓣 s es (rows_of c)) where
  -- a "same" is right, and proved by the rows
  pub told_same : r ≡ Ok Same → taking.Same 𝓣 (surveyed s) x y × Proves 𝓣 (weighed 𝓣 (surveyed s) (first_in s) (rows_of d)) x y
  told_same e =
      let law = (subst (λ (q : Result Answer CallFault). Lawful 𝓣 c (compared x y room (comparing q o)) d) e lawful).law s over es h in
      (law.decides.0, law.proves.0)

  -- where the words are different, what is in the buffer shows it
  pub told_different : (n : ℕ) → r ≡ Ok (Different n) → laws.Short 𝓣 (surveyed s) x y (take n o)
  told_different n e =
      let law = (subst (λ (q : Result Answer CallFault). Lawful 𝓣 c (compared x y room (comparing q o)) d) e lawful).law s over es h in
      law.decides.0.1
