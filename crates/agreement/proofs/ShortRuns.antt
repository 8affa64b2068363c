-- What a word takes, and offsets, as short runs tell them. Assumes nothing.
use Rattle.std.proofs.Common.{◌≡◌, ℕ, ◌+◌, ◌*◌, ◌<◌, ◌≤◌, length, Bool, Decides, eqb, ne_eqb, option_map, is_some, [], ◌∷◌, Some, None, Option, sym, refl, ap, ◌∙◌, arith}
use Rattle.std.specs.Bool.{then_some}
use Rattle.tally.specs.Group.{Group}
use Rattle.grammar.specs.Meaning.{Word, Input, Meaning}
use Rattle.grammar.specs.Takes.{takes}
use Rattle.grammar.proofs.Options.{none_some}
use Rattle.norm.specs.Norms.{Taken}
use borrow.Author.Tests.{clash}
use Rattle.norm.specs.Words.{ran}
use Rattle.norm.proofs.Bridges.{emptied, ended, takes_ended}
use Rattle.survey.specs.Surveyed.{first_in, run_of}
use Rattle.survey.proofs.Holding.{normed_in}
use Rattle.survey.specs.declared.run.Run.{Run}
use Rattle.survey.specs.declared.table.Survey.{Survey}

module _ {T : Type 0} (𝓣 : Group T) where
  emptied_test : (w : Word) (t : T) → then_some (eqb (length w) 0) t ≡ emptied 𝓣 w t
  emptied_test [] t = refl
  emptied_test (A ∷ w) t = ap (λ b. then_some b t) (ne_eqb (length (A ∷ w)) 0 (λ e. absurd (omega arith)))

  -- a run that ended
  pub run_ends : (M : Meaning T) (w : Word) (s : Input) (o : Option (Run T)) (r : Run T) → option_map run_of o ≡ ran 𝓣 M w s → o ≡ Some r →
      (o' : Option T) (n : ℕ) → n ≡ length (run_of r).word → o' ≡ then_some (eqb n 0) r.tally → o' ≡ takes 𝓣 M w s
  run_ends M w s o r e is o' n size f =
      f ∙ ap (λ k. then_some (eqb k 0) r.tally) size ∙ emptied_test (run_of r).word r.tally ∙ ap (ended 𝓣) (sym (ap (option_map run_of) is) ∙ e) ∙ sym (takes_ended 𝓣 M s w)

  -- a run that got stuck
  pub run_stuck : (M : Meaning T) (w : Word) (s : Input) (o : Option (Run T)) → option_map run_of o ≡ ran 𝓣 M w s → o ≡ None →
      (o' : Option T) → o' ≡ None → o' ≡ takes 𝓣 M w s
  run_stuck M w s o e is o' f = f ∙ ap (ended 𝓣) (sym (ap (option_map run_of) is) ∙ e) ∙ sym (takes_ended 𝓣 M s w)

  module _ (s : Survey T) (A : ℕ) (known : A < s.skeleton.words.count) where
    -- a first input is short
    pub first_short : length (first_in s A) ≤ 64
    first_short = let e = (normed_in s 𝓣).size A known in let h = s.skeleton.small A known in omega arith

    -- so a symbol and a row's word can be run over it
    pub symbol_fits : (first : Input) → first ≡ first_in s A → length (A ∷ []) + 3 * length first ≤ 512
    symbol_fits first e = let l = first_short in let k = ap length e in omega arith

    pub word_fits : (first : Input) → first ≡ first_in s A → (w : Word) → length w ≤ 64 → length w + 3 * length first ≤ 512
    word_fits first e w h = let l = first_short in let k = ap length e in omega arith

  -- whether something is taken
  pub taken_test : (M : Meaning T) (w : Word) (s s' : Input) (o : Option T) (b : Bool) → s ≡ s' → o ≡ takes 𝓣 M w s → b ≡ is_some o → Decides b (Taken 𝓣 M w s')
  taken_test M w s s' o b e is test = go o (is ∙ ap (takes 𝓣 M w) e) test
    where
      go : (o : Option T) → o ≡ takes 𝓣 M w s' → b ≡ is_some o → Decides b (Taken 𝓣 M w s')
      go None d t = (λ h. absurd (clash (sym t ∙ h)), λ h. absurd (none_some (d ∙ h.1)))
      go (Some x) d t = (λ h. (x, sym d), λ h. t)
