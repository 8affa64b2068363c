-- The question that the arguments of a program ask: FILE1 WORD1 FILE2 WORD2, with `--rows OUT` before or behind them.
--
-- Question          two files by their names, a word of each, and the file that the rows go to, if one is named
-- question f x …    the question of the word x of the file f and another, and where its rows go
-- is_option t       the test whether a text is the option, byte for byte
-- four_texts ts o   the question of four texts in their order, if there are four, with the rows to go to o
-- question_of ts    the question that the texts ask; none where they ask none
-- said a            the question that parsed arguments are
--
-- Assumes nothing.
use Rattle.std.specs.Prelude.{Bool, ◌||◌, List, [], ◌∷◌, Some, None, Option, option_map, if◌then◌else◌, bytes_eq, codes}
use Rattle.asking.specs.Texts.{Text}
use Rattle.asking.specs.declared.arguments.Arguments.{Arguments}

pub record Question : Type 0 where
  pub file : Text
  pub word : Text
  pub other_file : Text
  pub other_word : Text
  pub rows : Option Text

abbrev pub question : Text → Text → Text → Text → Option Text → Question
question f x g y out = record { file = f; word = x; other_file = g; other_word = y; rows = out }

abbrev pub is_option : Text → Bool
is_option t = bytes_eq t (codes "--rows")

abbrev pub four_texts : List Text → Option Text → Option Question
four_texts (f ∷ x ∷ g ∷ y ∷ []) out = Some (question f x g y out)
four_texts _ out = None

-- where the option stands at both ends, the one in front counts; where it stands at an end of four texts, too few are left
abbrev pub question_of : List Text → Option Question
question_of (a ∷ b ∷ c ∷ d ∷ []) = if is_option a || is_option c then None else Some (question a b c d None)
question_of (a ∷ b ∷ c ∷ d ∷ e ∷ f ∷ []) =
    if is_option a
    then Some (question c d e f (Some b))
    else (if is_option e then Some (question a b c d (Some f)) else None)
question_of _ = None

abbrev pub said : Arguments → Question
said a = question a.first.name.now a.first.word.now a.second.name.now a.second.word.now (option_map (λ t. t.now) a.rows)
