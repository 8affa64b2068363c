-- The arguments by how many they are: with the option at their end, and with none at an end. In front it needs no lemma. Assumes nothing.
use Rattle.std.specs.Prelude.{◌≡◌, suc, ◌-◌, ◌<◌, true, false, List, [], ◌∷◌, length, take, get_or, map, Some, None}
use Rattle.std.proofs.Common.{refl, sym, arith}
use Rattle.asking.specs.Texts.{Text}
use Rattle.asking.specs.Arguments.{is_option, four_texts, question_of}

module _ {X : Type 0} (text : X → Text) where
  pub few : (ws : List X) → length ws < 2 → four_texts (map text ws) None ≡ question_of (map text ws)
  few [] less = refl
  few (a ∷ []) less = refl
  few (a ∷ b ∷ ws) less = absurd (omega (arith, less))

  -- more than six are no question, and without the last two more than four
  many : (a b c e f g h : X) (ws : List X) (out : Text) → four_texts (map text (take (suc (suc (suc (suc (suc (suc (suc (length ws))))))) - 2) (a ∷ b ∷ c ∷ e ∷ f ∷ g ∷ h ∷ ws))) (Some out) ≡ None
  many a b c e f g h ws out =
      let less : suc (suc (suc (suc (suc (suc (suc (length ws))))))) - 2 ≡ suc (suc (suc (suc (suc (length ws))))) = omega arith in
      rw less refl

module _ {X : Type 0} (text : X → Text) (d : X) where
  pub behind : (ws : List X) → false ≡ is_option (text (get_or ws 0 d)) → true ≡ is_option (text (get_or ws (length ws - 2) d)) → four_texts (map text (take (length ws - 2) ws)) (Some (text (get_or ws (length ws - 1) d))) ≡ question_of (map text ws)
  behind [] not_first last = refl
  behind (a ∷ []) not_first last = refl
  behind (a ∷ b ∷ []) not_first last = refl
  behind (a ∷ b ∷ c ∷ []) not_first last = refl
  behind (a ∷ b ∷ c ∷ e ∷ []) not_first last = rw (sym not_first, sym last) refl
  behind (a ∷ b ∷ c ∷ e ∷ f ∷ []) not_first last = refl
  behind (a ∷ b ∷ c ∷ e ∷ f ∷ g ∷ []) not_first last = rw (sym not_first, sym last) refl
  behind (a ∷ b ∷ c ∷ e ∷ f ∷ g ∷ h ∷ ws) not_first last = many text a b c e f g h ws _

  pub without : (ws : List X) → false ≡ is_option (text (get_or ws 0 d)) → false ≡ is_option (text (get_or ws (length ws - 2) d)) → four_texts (map text ws) None ≡ question_of (map text ws)
  without [] not_first not_last = refl
  without (a ∷ []) not_first not_last = refl
  without (a ∷ b ∷ []) not_first not_last = refl
  without (a ∷ b ∷ c ∷ []) not_first not_last = refl
  without (a ∷ b ∷ c ∷ e ∷ []) not_first not_last = rw (sym not_first, sym not_last) refl
  without (a ∷ b ∷ c ∷ e ∷ f ∷ []) not_first not_last = refl
  without (a ∷ b ∷ c ∷ e ∷ f ∷ g ∷ []) not_first not_last = rw (sym not_first, sym not_last) refl
  without (a ∷ b ∷ c ∷ e ∷ f ∷ g ∷ h ∷ ws) not_first not_last = refl
