-- Words, questions and answers as they are written, on small cases.
--
-- seven      the names b c d e f k q
-- four       four texts: two files with a word each
-- Examples   what is read and written
--
-- Assumes nothing.
use Rattle.std.specs.Prelude.{◌≡◌, ℕ, ◌-◌, ◌^◌, List, [], ◌∷◌, ◌++◌, Some, None, Ok, Err, codes}
use Rattle.asking.specs.Arguments.{question, question_of}
use Rattle.asking.specs.Spelling.{spelled}
use Rattle.asking.specs.Texts.{Text, offset_text, marked, verdict_text, different_text}

abbrev pub seven : List ℕ
seven = codes "bcdefkq"

abbrev pub four : List Text
four = codes "a.book" ∷ codes "kq" ∷ codes "b.book" ∷ codes "qk" ∷ []

pub record Examples : Type 0 where
  -- kq is the word of 5 and 6; a minus sign alone is the empty word; in b?k the byte at 1 is no name
  pub word : spelled seven (codes "kq") ≡ Ok (5 ∷ 6 ∷ [])
  pub empty : spelled seven (codes "-") ≡ Ok []
  pub stray : spelled seven (codes "b?k") ≡ Err 1
  pub minus : spelled seven (codes "b-") ≡ Err 1
  -- offsets of lengths, of odd ones, and of two kinds; nothing where an offset is zero
  pub less : offset_text (1 ∷ []) ((2 ^ 32 - 10) ∷ []) ≡ codes " - 10"
  pub more : offset_text (2 ∷ []) (5 ∷ []) ≡ codes " + 5"
  pub odd : offset_text (3 ∷ []) (7 ∷ []) ≡ codes " ^ 7"
  pub zero : offset_text (1 ∷ []) (0 ∷ []) ≡ []
  pub both : offset_text (1 ∷ 3 ∷ []) ((2 ^ 32 - 10) ∷ 3 ∷ []) ≡ codes " - 10 foot ^ 3 odd"
  pub one_of_two : offset_text (1 ∷ 2 ∷ []) (0 ∷ 4 ∷ []) ≡ codes " + 4 last"
  pub half : offset_text (1 ∷ []) ((2 ^ 31) ∷ []) ≡ codes " - 2147483648"
  -- a name that both files have
  pub in_both : marked (codes "1.") 99 (codes "bc") ≡ codes "1.c"
  pub in_one : marked (codes "1.") 100 (codes "bc") ≡ codes "d"
  -- the verdicts of words, and all of a "different"
  pub taken : verdict_text (codes "kq") (Some (280 ∷ [])) ≡ codes "kq: taken 280\n"
  pub bare : verdict_text (codes "-") (Some []) ≡ codes "-: taken\n"
  pub not_taken : verdict_text (codes "q") None ≡ codes "q: not taken\n"
  pub different : different_text (codes "PL") (codes "k") (Some (280 ∷ [])) (codes "q") (Some (270 ∷ [])) ≡ codes "different PL\nk: taken 280\nq: taken 270\n"
  pub by_nothing : different_text [] (codes "-") (Some (0 ∷ 3 ∷ [])) (codes "b") None ≡ codes "different -\n-: taken 0 3\nb: not taken\n"
  -- four texts, with the option in front, behind, and in both places; too few beside the option; another option
  pub asked : question_of four ≡ Some (question (codes "a.book") (codes "kq") (codes "b.book") (codes "qk") None)
  pub in_front : question_of (codes "--rows" ∷ codes "out" ∷ four) ≡ Some (question (codes "a.book") (codes "kq") (codes "b.book") (codes "qk") (Some (codes "out")))
  pub behind : question_of (four ++ codes "--rows" ∷ codes "out" ∷ []) ≡ Some (question (codes "a.book") (codes "kq") (codes "b.book") (codes "qk") (Some (codes "out")))
  pub at_both : question_of (codes "--rows" ∷ codes "out" ∷ codes "a.book" ∷ codes "kq" ∷ codes "--rows" ∷ codes "q" ∷ []) ≡ Some (question (codes "a.book") (codes "kq") (codes "--rows") (codes "q") (Some (codes "out")))
  pub too_few : question_of (codes "a.book" ∷ codes "kq" ∷ codes "--rows" ∷ codes "out" ∷ []) ≡ None
  pub other_option : question_of (codes "--row" ∷ codes "out" ∷ four) ≡ None
