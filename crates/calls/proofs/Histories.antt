-- The law over histories, call by call.
--
-- The idea: at each moment the rows stand, which is that they may be rows and prove themselves. A "same" and an offer that is taken keep the rows that were there, so what these proved is proved still; every other call leaves them alone, but for a clear, after which nothing is left to keep.
--
-- Assumes nothing.
use Rattle.std.proofs.Common.{◌≡◌, ℕ, List, [], ◌∷◌, None, Ok, Err, sym, ◌∙◌, subst}
use Rattle.tally.specs.Group.{Group}
use Rattle.grammar.specs.Meaning.{Word, Input, Meaning}
use Rattle.grammar.specs.Takes.{takes, Same, Differ, only_first, only_second, by_tally}
use Rattle.grammar.proofs.Options.{none_some, some_none, some_same}
use Rattle.layout.specs.Contents.{FileRow}
use Rattle.rows.specs.Sheets.{View, Sheet, weighed, Proves, Ranked, Extends}
use Rattle.calls.specs.Refusals.{compare_fault}
use Rattle.calls.specs.Offers.{with_rows, Offered, copied}
use Rattle.comparison.specs.Procedure.{SaysSame}
use Rattle.calls.specs.Histories.{refused, same, different, Event, compared, offered, cleared, ran, copied_to, Alike, Next, compare_refused, compare_same, compare_different, offer_refused, offer_taken, clear_all, run_refused, run_answered, copy_refused, copy_written, History, new, then}
use Rattle.calls.specs.Laws.{Each, SinceClear, Decided, ProvedBy, HistoriesLaw}
use Rattle.calls.proofs.Ground.{Ground, ground, Standing, weighed_ranked, weighed_extends}
use Rattle.calls.proofs.Comparisons.{compared_known, same_proven}
use Rattle.calls.proofs.Taking.{taken_stands}
use Rattle.calls.proofs.Copies.{carries}

module _ {T : Type 0} (𝓣 : Group T) (M : Meaning T) where
  -- words that differ on an input are not the same
  not_same : (x y : Word) (s : Input) → Differ 𝓣 M x y s → ¬ Same 𝓣 M x y
  not_same x y s (only_first t e f) h = some_none (sym e ∙ h s ∙ f)
  not_same x y s (only_second t e f) h = none_some (sym e ∙ h s ∙ f)
  not_same x y s (by_tally t u e f apart) h = apart (some_same (sym e ∙ h s ∙ f))

  -- what is proved of events by one sheet is proved by another that proves as much
  module _ (D E : Sheet T) (more : (x y : Word) → Proves 𝓣 D x y → Proves 𝓣 E x y) where
    proved_more : (e : Event T) → ProvedBy 𝓣 M D e → ProvedBy 𝓣 M E e
    proved_more (compared x y k same) p = more x y p
    proved_more (compared x y k (refused f)) p = tt
    proved_more (compared x y k (different s)) p = tt
    proved_more (offered bs r) p = tt
    proved_more cleared p = tt
    proved_more (ran w s r) p = tt
    proved_more (copied_to k r) p = tt

    since_more : (es : List (Event T)) → SinceClear (ProvedBy 𝓣 M D) es → SinceClear (ProvedBy 𝓣 M E) es
    since_more [] p = tt
    since_more (cleared ∷ es) p = tt
    since_more (compared x y k r ∷ es) p = (proved_more (compared x y k r) p.0, since_more es p.1)
    since_more (offered bs r ∷ es) p = (tt, since_more es p.1)
    since_more (ran w s r ∷ es) p = (tt, since_more es p.1)
    since_more (copied_to k r ∷ es) p = (tt, since_more es p.1)

module _ {T : Type 0} (𝓣 : Group T) (M : Meaning T) (norm : ℕ → ℕ) (first : ℕ → Input) (G : Ground 𝓣 M norm first) where
  -- what stands after the events es, over the rows of V
  pub record Sound (es : List (Event T)) (V : View) : Type 0 where
    pub stands : Standing 𝓣 M norm first V
    pub decides : Each (Decided 𝓣 M) es
    pub proves : SinceClear (ProvedBy 𝓣 M (weighed 𝓣 M first V)) es

  -- no rows stand
  rowless : Standing 𝓣 M norm first (λ A. None)
  rowless = record { ranked = λ A w e. absurd (none_some e); proving = λ A m e. absurd (none_some e) }

  -- the same rows
  alike_sound : (es : List (Event T)) (V W : View) → Alike 𝓣 M norm first V W → Sound es V → Sound es W
  alike_sound es V W alike s = subst (λ (U : View). Sound es U) (λ i A. sym (alike A) i) s

  -- rows that keep those of V keep what these proved
  since_kept : (es : List (Event T)) (V W : View) → Sound es V → Ranked M.count norm W → Extends V W → SinceClear (ProvedBy 𝓣 M (weighed 𝓣 M first W)) es
  since_kept es V W s ranked more =
      since_more 𝓣 M (weighed 𝓣 M first V) (weighed 𝓣 M first W)
      (G.row_laws.more_prove (weighed 𝓣 M first V) (weighed 𝓣 M first W) (weighed_extends 𝓣 M first V W more) (weighed_ranked 𝓣 M first W M.count norm ranked)) es s.proves

  module _ (es : List (Event T)) (V : View) (s : Sound es V) where
    same_sound : (x y : Word) (k : ℕ) (W : View) → compare_fault M.count x y k ≡ None → SaysSame 𝓣 M norm first x y V W → Sound (compared x y k same ∷ es) W
    same_sound x y k W is says =
        let known = compared_known M.count x y k is in
        let p = same_proven 𝓣 M norm first G x y known.0 known.1 V s.stands.ranked W says in
        let D = weighed 𝓣 M first W in
        record {
          stands = record { ranked = p.order; proving = p.proving };
          decides = (G.row_laws.proved_same D (weighed_ranked 𝓣 M first W M.count norm p.order) p.proving x y p.proves, s.decides);
          proves = (p.proves, since_kept es V W s p.order p.more);
        }

    taken_sound : (bs : List ℕ) (rs : List FileRow) → Offered 𝓣 M norm first V bs (Ok rs) → Sound (offered bs (Ok rs) ∷ es) (with_rows V rs)
    taken_sound bs rs offer =
        let t = taken_stands 𝓣 M norm first V rs bs s.stands.ranked offer in
        record { stands = t.0; decides = (tt, s.decides); proves = (tt, since_kept es V (with_rows V rs) s t.0.ranked t.1) }

    -- a call, with the rows that it leaves
    next_sound : {e : Event T} {W : View} → Next 𝓣 M norm first V e W → Sound (e ∷ es) W
    next_sound (compare_refused x y k f W is alike) =
        alike_sound (compared x y k (refused f) ∷ es) V W alike (record { stands = s.stands; decides = (tt, s.decides); proves = (tt, s.proves) })
    next_sound (compare_same x y k W is says) = same_sound x y k W is says
    next_sound (compare_different x y k t W is says differ short alike) =
        alike_sound (compared x y k (different t) ∷ es) V W alike
        (record { stands = s.stands; decides = ((not_same 𝓣 M x y t differ, record { differ = differ; short = short }), s.decides); proves = (tt, s.proves) })
    next_sound (offer_refused bs f W offer alike) =
        alike_sound (offered bs (Err f) ∷ es) V W alike (record { stands = s.stands; decides = (tt, s.decides); proves = (tt, s.proves) })
    next_sound (offer_taken bs rs W offer alike) = alike_sound (offered bs (Ok rs) ∷ es) (with_rows V rs) W alike (taken_sound bs rs offer)
    next_sound (clear_all W alike) = alike_sound (cleared ∷ es) (λ A. None) W alike (record { stands = rowless; decides = (tt, s.decides); proves = tt })
    next_sound (run_refused w t f W is alike) =
        alike_sound (ran w t (Err f) ∷ es) V W alike (record { stands = s.stands; decides = (tt, s.decides); proves = (tt, s.proves) })
    next_sound (run_answered w t W is alike) =
        alike_sound (ran w t (Ok (takes 𝓣 M w t)) ∷ es) V W alike (record { stands = s.stands; decides = (tt, s.decides); proves = (tt, s.proves) })
    next_sound (copy_refused k f W is alike) =
        alike_sound (copied_to k (Err f) ∷ es) V W alike (record { stands = s.stands; decides = (tt, s.decides); proves = (tt, s.proves) })
    next_sound (copy_written k W is alike) =
        alike_sound (copied_to k (Ok (copied V)) ∷ es) V W alike (record { stands = s.stands; decides = (tt, s.decides); proves = (tt, s.proves) })

  history_sound : {es : List (Event T)} {V : View} → History 𝓣 M norm first es V → Sound es V
  history_sound (new V alike) = alike_sound [] (λ A. None) V alike (record { stands = rowless; decides = tt; proves = tt })
  history_sound (then {es = es} {V = V} {W = W} h e next) = next_sound es V (history_sound h) {e = e} {W = W} next

pub histories_law : {T : Type 0} (𝓣 : Group T) → HistoriesLaw 𝓣
histories_law 𝓣 M norm first F A N es V h =
    let G = ground 𝓣 M norm first F A N in
    let s = history_sound 𝓣 M norm first G h in
    record { decides = s.decides; proves = s.proves; carries = carries 𝓣 M norm first G V s.stands }
