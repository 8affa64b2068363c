-- A rule that is taken up whole. Assumes nothing.
use Rattle.std.proofs.Common.{◌≡◌, ℕ, ◌<◌, ◌≤◌, List, length, get_or, take, is_some, Some, None, Option, sym, refl, ap, ◌∙◌, subst, arith, length-take, get_or-take, ◌+◌, true, [], ◌∷◌, ◌++◌, set, length-set, take_all}
use Rattle.std.proofs.lemmas.Grind.{same_number_lists}
use Rattle.std.proofs.lemmas.List.{get_or_default, take_more, take_more_set}
use Rattle.std.specs.Bool.{then_some}
use Rattle.std.specs.List.{All}
use Rattle.std.specs.Option.{option_map}
use Rattle.grammar.specs.Meaning.{Word, Weighted, Meaning, Below, word_of}
use Rattle.norm.specs.Tabled.{held}
use Rattle.norm.specs.Words.{words_of}
use Rattle.norm.specs.declared.short_word.ShortWord.{ShortWord}
use Rattle.norm.proofs.Weights.{each_at, each_from_places, each_more}
use Rattle.survey.specs.Refusals.{Fine, BadRule, strays, max_rule}
use Rattle.survey.specs.declared.fault.GrammarFault.TheVariants.{StraySymbol}

-- the cells have what is asked for place by place, and so the word
pub copied : (n : ℕ) (cells : List ℕ) (w : Word) → length cells ≡ 4 → n ≡ length w → n ≤ 4 → ((i : ℕ) (d : ℕ) → i < 4 → get_or cells i d ≡ get_or w i 255) → take n cells ≡ w
copied n cells w room size short each =
    same_number_lists (take n cells) w long
    (λ i h. let l = long in get_or-take n cells i 0 (omega arith) ∙ each i 0 (omega arith) ∙ get_or_default w i 255 0 (omega arith))
  where
    long : length (take n cells) ≡ length w
    long = simp length-take (omega arith)

-- the first i symbols of w are copied into cells, and are below k
abbrev pub Copied : ℕ → Word → ℕ → List ℕ → Type 0
Copied k w i cells = (length cells ≡ 4) × (take i cells ≡ take i w) × Below k (take i w)

pub copied_more : (k : ℕ) (w : Word) (i A : ℕ) (cells : List ℕ) → Copied k w i cells → i < length w → length w ≤ 4 → A ≡ get_or w i 255 → A < k → Copied k w (i + 1) (set cells i A)
copied_more k w i A cells c h l read small =
    let long : i < length cells = let s = c.0 in omega arith in (
      length-set cells i A ∙ c.0,
      take_more_set cells i A long ∙ ap (λ y. y ++ (A ∷ [])) c.1 ∙ ap (λ y. take i w ++ (y ∷ [])) read ∙ sym (take_more w i 255 h),
      each_more (λ B. B < k) w i 255 h c.2 (omega arith),
    )

module _ {T : Type 0} (k : ℕ) (M : Meaning T) (A a : ℕ) where
  -- all of it
  pub copied_all : (n : ℕ) (cells : List ℕ) → Copied k (word_of (M.rule A a)) n cells → length (word_of (M.rule A a)) ≡ n → n ≤ max_rule → Fine k M A a × (take n cells ≡ word_of (M.rule A a))
  copied_all n cells c e l =
      let whole : take n (word_of (M.rule A a)) ≡ word_of (M.rule A a) = take_all n (word_of (M.rule A a)) (omega arith) in
      (record { short = omega arith; known = subst (Below k) whole c.2 }, c.1 ∙ whole)

  pub word_of_there : is_some (M.rule A a) ≡ true → words_of M A a ≡ Some (word_of (M.rule A a))
  word_of_there e = go (M.rule A a) e
    where
      go : (o : Option (Weighted T)) → is_some o ≡ true → ◌≡◌ {A = Option Word} (option_map (λ m. m.word) o) (Some (word_of o))
      go None e = absurd (let z : ◌≡◌ {A = ℕ} 0 1 = cc in omega arith)
      go (Some m) e = refl

module _ {T : Type 0} (k : ℕ) (M : Meaning T) (A a : ℕ) (w : Word) (is : w ≡ word_of (M.rule A a)) (short : length (word_of (M.rule A a)) ≤ max_rule) where
  pub strayed : ¬ All (λ B. B < k) w → BadRule k M A a (StraySymbol A a)
  strayed h = strays short (λ b. h (λ i d l. each_at (λ B. B < k) w i d l (subst (Below k) (sym is) b))) refl

  pub fine : All (λ B. B < k) w → Fine k M A a
  fine h = record { short = short; known = subst (Below k) is (each_from_places (λ B. B < k) w (λ i l. h i 0 l)) }

  -- the word, where there is a rule
  pub there : (b : _) (x : ShortWord 4) → b ≡ is_some (M.rule A a) → held x ≡ w → option_map held (then_some b x) ≡ words_of M A a
  there b x e d = rw e (go (M.rule A a) (d ∙ is))
    where
      go : (o : Option (Weighted T)) → held x ≡ word_of o → option_map held (then_some (is_some o) x) ≡ option_map (λ m. m.word) o
      go None h = refl
      go (Some m) h = ap {B = Option Word} Some h
