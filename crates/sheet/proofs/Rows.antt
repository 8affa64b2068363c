-- The marked rows of a table: how many, and the next. Assumes nothing.
use Rattle.std.proofs.Common.{◌≡◌, ℕ, zero, suc, ◌+◌, ◌<◌, ◌≤◌, Bool, true, false, cond, List, [], ◌∷◌, length, Some, None, Option, MatchOption, refl, sym, ap, ap₂, arith}
use Rattle.std.specs.List.{slice_get}
use Rattle.std.specs.Option.{option_map}
use Rattle.norm.specs.Tabled.{held}
use Rattle.norm.specs.declared.short_word.ShortWord.{ShortWord}
use Rattle.rows.specs.Sheets.{marked, tell}
use Rattle.sheet.specs.Marked.{has, number, Least}
use Rattle.sheet.specs.Rowed.{view, NextRow}

-- a place of the table has a row
pub placed : {X : Type 0} (xs : List X) (A : ℕ) → A < length xs → (x : X) × (slice_get xs A ≡ Some x)
placed [] A h = absurd (omega arith)
placed (x ∷ xs) zero h = (x, refl)
placed (x ∷ xs) (suc A) h = placed xs A (omega arith)

-- where a mark stands a row shows, and elsewhere none
pub view_none : (rs : List (ShortWord 64)) (m A : ℕ) → has m A ≡ false → view rs m A ≡ None
view_none rs m A e = ap (λ b. cond b (option_map held (slice_get rs A)) None) e

pub view_some : (rs : List (ShortWord 64)) (m A : ℕ) → length rs ≡ 32 → A < 32 → has m A ≡ true → (r : ShortWord 64) × (view rs m A ≡ Some (held r))
view_some rs m A l h e =
    let p = placed rs A (omega arith) in
    (p.0, ap₂ (λ b o. cond b (option_map held o) None) e p.1)

-- as many rows as marks
told : (rs : List (ShortWord 64)) (m A : ℕ) → length rs ≡ 32 → A < 32 → cond (has m A) 1 0 ≡ tell (view rs m A)
told rs m A l h = by (has m A) refl
  where
    by : (b : Bool) → has m A ≡ b → cond b 1 0 ≡ tell (view rs m A)
    by true e = sym (ap tell (view_some rs m A l h e).1)
    by false e = sym (ap tell (view_none rs m A e))

pub number_marked : (rs : List (ShortWord 64)) (m k : ℕ) → length rs ≡ 32 → k ≤ 32 → number m k ≡ marked (view rs m) k
number_marked rs m zero l h = refl
number_marked rs m (suc k) l h = ap₂ ◌+◌ (told rs m k l (omega arith)) (number_marked rs m k l (omega arith))

-- the next mark is the next row
pub next_row : (rs : List (ShortWord 64)) (m k : ℕ) → length rs ≡ 32 → (o : Option ℕ) → MatchOption o ((A : ℕ) → k ≤ A → has m A ≡ false) (λ A. (A < 32) × Least m k A) → MatchOption o ((A : ℕ) → k ≤ A → view rs m A ≡ None) (λ A. (A < 32) × NextRow (view rs m) k A)
next_row rs m k l None f = λ A h. view_none rs m A (f A h)
next_row rs m k l (Some A) p =
    let r = view_some rs m A l p.0 p.1.is in
    (p.0, record { from = p.1.from; word = held r.0; is = r.1; before = λ B h u. view_none rs m B (p.1.before B h u) })
