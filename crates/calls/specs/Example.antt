-- Calls over the example grammar with seven symbols, worked out by hand.
--
-- size A                    the norm of A in it
-- f                         the symbol f
-- one_row A w               the row A → w, as a section holds it
-- nothing                   no rows
-- calls_made 𝓣 x            calls of every kind with their answers, the first one first
-- AreSame 𝓣 x y z v w V     with no rows at the start the comparison of v and w comes to "same", and leaves the rows of V
-- AreDifferent 𝓣 x y z v w  with no rows at the start it comes to "different"
-- IsRefused 𝓣 x y z bs f    with no rows at the start the offer of the bytes bs is refused for f
-- Examples 𝓣 x y z          the grammar is not refused, the calls are a history, and what single comparisons, runs and offers come to
--
-- Assumes nothing.
use Rattle.std.specs.Prelude.{◌≡◌, ℕ, List, [], ◌∷◌, reverse, length, Some, None, Ok, Err}
use Rattle.tally.specs.Group.{Group}
use Rattle.grammar.specs.Meaning.{Word, WellFormed}
use Rattle.grammar.specs.Takes.{takes, Differ}
use Rattle.norm.specs.Norms.{Normed}
use Rattle.layout.specs.Contents.{FileRow}
use Rattle.rows.specs.Sheets.{View, offset}
use Rattle.rows.specs.Example.{L, P, S, b, c, e, k, q, seven, sevens, lone}
use Rattle.survey.specs.Refusals.{Accepted}
use Rattle.calls.specs.Offers.{Offered}
use Rattle.comparison.specs.Procedure.{SaysSame, SaysDifferent}
use Rattle.calls.specs.Histories.{refused, same, different, Event, compared, offered, cleared, ran, copied_to, History}
use Rattle.calls.specs.declared.fault.CallFault.{CallFault}
use Rattle.calls.specs.declared.fault.CallFault.TheVariants.{ShortBuffer, Marked, Unlike, Misses, Disagrees}

abbrev pub size : ℕ → ℕ
size A = length (sevens A)

abbrev pub f : ℕ
f = 4

abbrev pub one_row : ℕ → Word → List FileRow
one_row A w = record { symbol = A; word = w } ∷ []

abbrev pub nothing : View
nothing A = None

abbrev pub calls_made : {T : Type 0} → Group T → T → List (Event T)
calls_made 𝓣 x =
    -- b takes SLL, and e does not; no row is left
    compared (b ∷ []) (e ∷ []) 16384 (different (S ∷ L ∷ L ∷ []))
    -- the row c → b is left
    ∷ compared (b ∷ []) (c ∷ []) 16384 same
    -- the buffer is shorter than the longest input
    ∷ compared (b ∷ []) (c ∷ []) 100 (refused (ShortBuffer 100))
    -- c has its row still
    ∷ offered (1 ∷ 1 ∷ 1 ∷ 0 ∷ []) (Err (Marked c))
    ∷ cleared
    -- q → k is taken
    ∷ offered (1 ∷ 6 ∷ 1 ∷ 5 ∷ []) (Ok (one_row q (k ∷ [])))
    ∷ ran (b ∷ []) (L ∷ []) (Ok (Some (𝓣.add x 𝓣.zero)))
    -- just the row that was taken
    ∷ copied_to 2047 (Ok (1 ∷ 6 ∷ 1 ∷ 5 ∷ [])) ∷ []

module _ {T : Type 0} (𝓣 : Group T) (x y z : T) where
  abbrev pub AreSame : Word → Word → View → Type 0
  AreSame v w = SaysSame 𝓣 (seven 𝓣 x y z) size sevens v w nothing

  abbrev pub AreDifferent : Word → Word → Type 0
  AreDifferent v w = SaysDifferent 𝓣 (seven 𝓣 x y z) size sevens v w nothing

  abbrev pub IsRefused : List ℕ → CallFault → Type 0
  IsRefused bs fault = Offered 𝓣 (seven 𝓣 x y z) size sevens nothing bs (Err fault)

  pub record Examples : Type 0 where
    pub well_formed : WellFormed (seven 𝓣 x y z)
    pub accepted : Accepted 32 64 𝓣 (seven 𝓣 x y z)
    pub normed : Normed 𝓣 (seven 𝓣 x y z) size sevens
    -- b and c are the same, by the row c → b
    pub b_c : AreSame (b ∷ []) (c ∷ []) (lone c (b ∷ []))
    -- b and e are different: b takes SLL, with x + x, and e does not
    pub b_e : AreDifferent (b ∷ []) (e ∷ [])
    pub b_e_input : Differ 𝓣 (seven 𝓣 x y z) (b ∷ []) (e ∷ []) (S ∷ L ∷ L ∷ [])
    pub b_takes : takes 𝓣 (seven 𝓣 x y z) (b ∷ []) (S ∷ L ∷ L ∷ []) ≡ Some (𝓣.add x x)
    -- b and f take L with x and with y: unless these are equal, b and f are different
    pub b_f : ¬ (x ≡ y) → AreDifferent (b ∷ []) (f ∷ [])
    pub b_f_input : ¬ (x ≡ y) → Differ 𝓣 (seven 𝓣 x y z) (b ∷ []) (f ∷ []) (L ∷ [])
    pub b_takes_first : takes 𝓣 (seven 𝓣 x y z) (b ∷ []) (L ∷ []) ≡ Some x
    pub f_takes_first : takes 𝓣 (seven 𝓣 x y z) (f ∷ []) (L ∷ []) ≡ Some y
    -- kq and qk are the same, by the row q → k, whose offset is minus the tally of k's rule at P
    pub kq_qk : AreSame (k ∷ q ∷ []) (q ∷ k ∷ []) (lone q (k ∷ []))
    pub q_k_offset : offset 𝓣 (seven 𝓣 x y z) sevens q (k ∷ []) ≡ 𝓣.neg z
    -- k and q are different, unless that tally is zero
    pub k_q : ¬ (z ≡ 𝓣.zero) → AreDifferent (k ∷ []) (q ∷ [])
    pub k_q_input : ¬ (z ≡ 𝓣.zero) → Differ 𝓣 (seven 𝓣 x y z) (k ∷ []) (q ∷ []) (P ∷ L ∷ [])
    -- the empty word is the same as itself, and only it takes the empty input
    pub empty_empty : AreSame [] [] nothing
    pub empty_b : AreDifferent [] (b ∷ [])
    pub empty_b_input : Differ 𝓣 (seven 𝓣 x y z) [] (b ∷ []) []
    -- bb takes SLLL, with x + x + x as the run adds them up, and b does not take SL
    pub bb_takes : takes 𝓣 (seven 𝓣 x y z) (b ∷ b ∷ []) (S ∷ L ∷ L ∷ L ∷ []) ≡ Some (𝓣.add 𝓣.zero (𝓣.add x (𝓣.add x (𝓣.add x 𝓣.zero))))
    pub b_misses : takes 𝓣 (seven 𝓣 x y z) (b ∷ []) (S ∷ L ∷ []) ≡ None
    -- 18, b → c is refused: of two symbols with one norm b has the smaller number
    pub b_c_offer : IsRefused (1 ∷ 0 ∷ 1 ∷ 1 ∷ []) (Unlike b)
    -- 19, q → bb is refused: bb does not take q's first input
    pub q_bb_offer : IsRefused (1 ∷ 6 ∷ 2 ∷ 0 ∷ 0 ∷ []) (Misses q)
    -- 20, e → b is refused: it does not agree at S
    pub e_b_offer : IsRefused (1 ∷ 3 ∷ 1 ∷ 0 ∷ []) (Disagrees (record { symbol = e; letter = S }))
    -- calls of every kind, one after the other
    pub history : History 𝓣 (seven 𝓣 x y z) size sevens (reverse (calls_made 𝓣 x)) (lone q (k ∷ []))
