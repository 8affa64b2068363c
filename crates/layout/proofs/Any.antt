-- The check of a file for the kinds that it states itself.
--
-- up_to_kinds    what the reading comes to up to the kinds, whatever kinds the file is read for
-- any_or_kinds   read for any kinds, the file gets the same answer, or the answer that it has other kinds
-- any_is         that answer is the one for some legal kinds
-- any_fits       it is never that the file has other kinds: that fault names kinds which the file states
-- any_law        the law of that check
-- one_fits       of the seven lists of kinds that a file can state, one does not get the answer that it has other kinds
--
-- Assumes nothing.
use Rattle.std.proofs.Common.{◌≡◌, ℕ, zero, suc, ◌<◌, Bool, true, false, ◌⊎◌, List, [], ◌∷◌, ◌++◌, length, Ok, Err, Result, sym, refl, ap, ◌∙◌, subst, inl, inr, append_assoc, arith}
use Rattle.layout.specs.Contents.{Contents, Kind, Legal, encode}
use Rattle.layout.specs.Reading.{Read, then, names, kinds, same_kinds, value_of, checked, stated, checked_as, checked_any}
use Rattle.layout.specs.Wrong.{LegalNames, LegalKinds, Field, fit, head, ReadTo, to_names, to_name, to_kinds, to_kind, to_fit, to_rules, to_rule, to_letter, to_number, to_length, to_word, to_rows, to_row, to_row_length, to_row_word, to_end}
use Rattle.layout.specs.Wrong.{Wrong, short, out_of_limits, too_many_rules, bad_name, bad_kind, bad_letter, rule_order, row_order, rule_symbol, row_symbol, word_symbol, more_bytes, other_kinds}
use Rattle.layout.specs.Laws.{Bytes, AnyLaw}
use Rattle.layout.specs.declared.fault.Fault.{Fault}
use Rattle.layout.specs.declared.fault.Fault.TheVariants.{Kinds}
use Rattle.layout.proofs.Steps.{ok_err, ok_same, err_same, then_ok, then_err, given_err}
use Rattle.layout.proofs.Numbers.{decides_same_kinds}
use Rattle.layout.proofs.Sections.{kinds_sound}
use Rattle.layout.proofs.Complete.{names_complete, kinds_complete}
use Rattle.layout.proofs.Law.{accepted, refused}

data UpToKinds (bs : List ℕ) : Type 0 where
  unread : (f : Fault) → stated bs ≡ Err f → ((ks : List ℕ) → checked ks bs ≡ Err f) → UpToKinds bs
  states : (fs : List ℕ) → stated bs ≡ Ok fs → LegalKinds fs → ((ks : List ℕ) → same_kinds ks fs ≡ false → checked ks bs ≡ Err Kinds) → UpToKinds bs

up_to_kinds : (bs : List ℕ) → UpToKinds bs
up_to_kinds bs = at_names (names (length bs) bs) refl
  where
    at_kinds : (r : Read (List ℕ)) → names (length bs) bs ≡ Ok r → (o : Result (Read (List ℕ)) Fault) → kinds (length bs) r.rest ≡ o → UpToKinds bs
    at_kinds r e (Err f) d = unread f (ap value_of (then_ok _ _ r.value r.rest e ∙ d)) (λ ks. ap value_of (then_ok _ _ r.value r.rest e ∙ then_err _ _ f d))
    at_kinds r e (Ok s) d =
        states s.value (ap value_of (then_ok _ _ r.value r.rest e ∙ d)) (kinds_sound (length bs) r.rest s d).0
        (λ ks n. ap value_of (then_ok _ _ r.value r.rest e ∙ then_ok _ _ s.value s.rest d ∙ then_err _ _ Kinds (given_err (same_kinds ks s.value) Kinds s.value s.rest n)))

    at_names : (o : Result (Read (List ℕ)) Fault) → names (length bs) bs ≡ o → UpToKinds bs
    at_names (Err f) e = unread f (ap value_of (then_err _ _ f e)) (λ ks. ap value_of (then_err _ _ f e))
    at_names (Ok r) e = at_kinds r e (kinds (length bs) r.rest) refl

pub any_or_kinds : (ks bs : List ℕ) → (checked ks bs ≡ Err Kinds) ⊎ (checked ks bs ≡ checked_any bs)
any_or_kinds ks bs = at (up_to_kinds bs)
  where
    fits : (fs : List ℕ) → stated bs ≡ Ok fs → ((ls : List ℕ) → same_kinds ls fs ≡ false → checked ls bs ≡ Err Kinds) → (t : Bool) → same_kinds ks fs ≡ t → (checked ks bs ≡ Err Kinds) ⊎ (checked ks bs ≡ checked_any bs)
    fits fs st others true e = inr (ap (λ l. checked l bs) ((decides_same_kinds ks fs).0 e) ∙ sym (ap (λ o. checked_as o bs) st))
    fits fs st others false e = inl (others ks e)

    at : UpToKinds bs → (checked ks bs ≡ Err Kinds) ⊎ (checked ks bs ≡ checked_any bs)
    at (unread f st all) = inr (all ks ∙ sym (ap (λ o. checked_as o bs) st))
    at (states fs st legal others) = fits fs st others (same_kinds ks fs) refl

pub record AnyIs (bs : List ℕ) : Type 0 where
  pub kinds : List ℕ
  pub legal : LegalKinds kinds
  pub same : checked kinds bs ≡ checked_any bs
  pub stated_so : (fs : List ℕ) → stated bs ≡ Ok fs → kinds ≡ fs

pub any_is : (bs : List ℕ) → AnyIs bs
any_is bs = at (up_to_kinds bs)
  where
    at : UpToKinds bs → AnyIs bs
    at (unread f st all) = record {
      kinds = [];
      legal = record { few = omega arith; each = tt; rising = tt };
      same = all [] ∙ sym (ap (λ o. checked_as o bs) st);
      stated_so = λ fs e. absurd (ok_err (sym e ∙ st));
    }
    at (states fs st legal others) = record { kinds = fs; legal = legal; same = sym (ap (λ o. checked_as o bs) st); stated_so = λ gs e. ok_same (sym st ∙ e) }

-- names and kinds are stated by the bytes that begin with them
stated_head : (bs ns fs rest : List ℕ) → bs ≡ head ns fs ++ rest → LegalNames ns → LegalKinds fs → stated bs ≡ Ok fs
stated_head bs ns fs rest e h i =
    let t = length bs in
    ap (λ l. value_of (then (names t l) (λ _ cs. kinds t cs))) (e ∙ append_assoc (length ns ∷ ns) (length fs ∷ fs) rest)
    ∙ ap value_of (then_ok _ _ ns ((length fs ∷ fs) ++ rest) (names_complete t ns ((length fs ∷ fs) ++ rest) h) ∙ kinds_complete t fs rest i)

-- nothing is both of two cases
none : {X : Type 0} → ◌≡◌ {A = ℕ} 0 1 → X
none e = absurd (omega arith)

-- where kinds are to be judged, they and the names lie before
fit_at : (ks p fs : List ℕ) (F : Field) → ReadTo ks p F → F ≡ fit fs → (ns : List ℕ) × LegalNames ns × LegalKinds fs × (p ≡ head ns fs)
fit_at ks p fs F (to_fit ns gs h i e d) k = let same : gs ≡ fs = cc in (ns, h, subst (λ l. LegalKinds l) same i, e ∙ ap (head ns) same)
fit_at ks p fs F (to_names e d) k = none (cc)
fit_at ks p fs F (to_name n before h e d) k = none (cc)
fit_at ks p fs F (to_kinds ns h e d) k = none (cc)
fit_at ks p fs F (to_kind ns n before h i e d) k = none (cc)
fit_at ks p fs F (to_rules ns h i e d) k = none (cc)
fit_at ks p fs F (to_rule ns c before h e d) k = none (cc)
fit_at ks p fs F (to_letter ns c before A h i e d) k = none (cc)
fit_at ks p fs F (to_number ns c before A a xs h i j e d) k = none (cc)
fit_at ks p fs F (to_length ns c before A a xs h i j e d) k = none (cc)
fit_at ks p fs F (to_word ns c before A a xs l w h i j m o q e d) k = none (cc)
fit_at ks p fs F (to_rows ns rs h i j e d) k = none (cc)
fit_at ks p fs F (to_row ns rs c before h e d) k = none (cc)
fit_at ks p fs F (to_row_length ns rs c before A h e d) k = none (cc)
fit_at ks p fs F (to_row_word ns rs c before A l w h i j m o e d) k = none (cc)
fit_at ks p fs F (to_end c h i e d) k = none (cc)

-- other kinds than the tally's are stated
other_stated : (ks bs : List ℕ) (f : Fault) → Wrong ks bs f → f ≡ Kinds → (fs : List ℕ) × (stated bs ≡ Ok fs) × (ks ≡ fs → ⊥)
other_stated ks bs f (other_kinds p rest fs e to n d) k =
    let at = fit_at ks p fs (fit fs) to refl in
    (fs, stated_head bs at.0 fs rest (e ∙ ap (λ l. l ++ rest) at.3) at.1 at.2, n)
other_stated ks bs f (short p rest F e to h d) k = none (cc)
other_stated ks bs f (out_of_limits p rest b lo hi e to h d) k = none (cc)
other_stated ks bs f (too_many_rules p rest h l e to i d) k = none (cc)
other_stated ks bs f (bad_name p rest b before e to h d) k = none (cc)
other_stated ks bs f (bad_kind p rest b before e to h d) k = none (cc)
other_stated ks bs f (bad_letter p rest b e to h d) k = none (cc)
other_stated ks bs f (rule_order p rest n A a before e to h i j d) k = none (cc)
other_stated ks bs f (row_order p rest n A before e to h i d) k = none (cc)
other_stated ks bs f (rule_symbol p rest n b before e to h d) k = none (cc)
other_stated ks bs f (row_symbol p rest n b before e to h d) k = none (cc)
other_stated ks bs f (word_symbol p rest n b e to h d) k = none (cc)
other_stated ks bs f (more_bytes p rest b e to d) k = none (cc)

-- what holds of each of the seven lists holds of all legal kinds
three : (P : ℕ → Type 0) → P 1 → P 2 → P 3 → (x : ℕ) → Kind x → P x
three P a b c zero h = absurd (omega arith)
three P a b c (suc zero) h = a
three P a b c (suc (suc zero)) h = b
three P a b c (suc (suc (suc zero))) h = c
three P a b c (suc (suc (suc (suc x)))) h = absurd (omega arith)

seven : (P : List ℕ → Type 0) → P [] → P (1 ∷ []) → P (2 ∷ []) → P (3 ∷ []) → P (1 ∷ 2 ∷ []) → P (1 ∷ 3 ∷ []) → P (2 ∷ 3 ∷ []) → (ks : List ℕ) → LegalKinds ks → P ks
seven P n a b c ab ac bc [] h = n
seven P n a b c ab ac bc (x ∷ []) h = three (λ y. P (y ∷ [])) a b c x h.each.0
seven P n a b c ab ac bc (x ∷ y ∷ []) h =
    three (λ v. v < y → P (v ∷ y ∷ []))
    (three (λ w. 1 < w → P (1 ∷ w ∷ [])) (λ l. absurd (omega arith)) (λ _. ab) (λ _. ac) y h.each.1.0)
    (three (λ w. 2 < w → P (2 ∷ w ∷ [])) (λ l. absurd (omega arith)) (λ l. absurd (omega arith)) (λ _. bc) y h.each.1.0)
    (three (λ w. 3 < w → P (3 ∷ w ∷ [])) (λ l. absurd (omega arith)) (λ l. absurd (omega arith)) (λ l. absurd (omega arith)) y h.each.1.0)
    x h.each.0 h.rising.0
seven P n a b c ab ac bc (x ∷ y ∷ z ∷ ks) h = absurd (omega (arith, h.few))

module _ (bs : List ℕ) (bytes : Bytes bs) where
  pub any_fits : checked_any bs ≡ Err Kinds → ⊥
  any_fits e =
      let k = any_is bs in
      let w = other_stated k.kinds bs Kinds ((refused k.kinds bs bytes Kinds).0 (k.same ∙ e)) refl in
      w.2 (k.stated_so w.0 w.1)

  pub any_law : AnyLaw bs
  any_law = record { accepted = λ c. (accepts c, from_contents c); refused = λ f. (refuses f, from_wrong f) }
    where
      accepts : (c : Contents) → checked_any bs ≡ Ok c → Legal c × (bs ≡ encode c)
      accepts c e = let k = any_is bs in let h = (accepted k.kinds bs bytes c).0 (k.same ∙ e) in (h.0, h.2)

      from_contents : (c : Contents) → Legal c × (bs ≡ encode c) → checked_any bs ≡ Ok c
      from_contents c h =
          let e = (accepted c.kinds bs bytes c).1 (h.0, refl, h.1) in
          elim (any_or_kinds c.kinds bs) [ inl k ↦ absurd (ok_err (sym e ∙ k)) | inr k ↦ sym k ∙ e ]

      refuses : (f : Fault) → checked_any bs ≡ Err f → (f ≡ Kinds → ⊥) × ((ks : List ℕ) × Wrong ks bs f)
      refuses f e = let k = any_is bs in (λ d. any_fits (e ∙ ap {B = Result Contents Fault} Err d), (k.kinds, (refused k.kinds bs bytes f).0 (k.same ∙ e)))

      from_wrong : (f : Fault) → (f ≡ Kinds → ⊥) × ((ks : List ℕ) × Wrong ks bs f) → checked_any bs ≡ Err f
      from_wrong f h =
          let e = (refused h.1.0 bs bytes f).1 h.1.1 in
          elim (any_or_kinds h.1.0 bs) [ inl k ↦ absurd (h.0 (err_same (sym e ∙ k))) | inr k ↦ sym k ∙ e ]

  abbrev Other : List ℕ → Type 0
  Other ks = checked ks bs ≡ Err Kinds

  pub one_fits : Other [] → Other (1 ∷ []) → Other (2 ∷ []) → Other (3 ∷ []) → Other (1 ∷ 2 ∷ []) → Other (1 ∷ 3 ∷ []) → Other (2 ∷ 3 ∷ []) → ⊥
  one_fits n a b c ab ac bc = let k = any_is bs in any_fits (sym k.same ∙ seven Other n a b c ab ac bc k.kinds k.legal)
