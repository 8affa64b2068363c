use Rattle.std.proofs.Common.{◌≡◌, ℕ, ◌<◌, ◌≤◌, length, Some, None, refl, sym, ap, ◌∙◌, subst, arith}
use Rattle.rows.specs.Sheets.{Sheet, offset, unweighed, Ranked}
use Rattle.rows.specs.Replacing.{Grown}
use Rattle.sheet.specs.Rowed.{view, shown, shows}
use Rattle.survey.specs.Surveyed.{surveyed, norm_in, first_in}
use Rattle.agreement.specs.Works.{rows_over, Works, Within}
use Rattle.agreement.specs.Agreeing.{Ready}
use Rattle.agreement.proofs.Cutting.{row_short}
use Rattle.comparison.specs.Turning.{Turned}
use Rattle.comparison.specs.Agreed.{Kept}
use Rattle.comparison.proofs.Linking.{written_of}
use Rattle.comparison.proofs.Goings.{going_more, turned_some, turned_different, turned_over}
use Rattle.comparison.proofs.comparison.Comparison.turn.Goals as goal

pub returns-in_default-clause-went : goal.returns-in_default-clause-went
returns-in_default-clause-went g c = λ given_x given_y S ranked h. (
  turned_over g.T.Tally.group c.args.survey.now c.args.self.now.words.one.now c.args.self.now.words.two.now (shown c.view.result) (shows c.args.guard.now.sheet.now) c.args.work.now c.args.self.now.agreed
      None c.view.ensures.view c.in_default.ensures.turned h.ready given_x given_y h.kept,
  record { sheet = refl; work = refl; sources = refl },
)

pub returns-in_default-treatment : goal.returns-in_default-treatment
returns-in_default-treatment g c = record {
  same_sheet = refl;
  saved = refl;
  kept = refl;
  words = refl;
  went = λ given_x given_y S ranked h.
      let 𝓣 = g.T.Tally.group in
      let s = c.args.survey.now in
      let x = c.args.self.now.words.one.now in
      let y = c.args.self.now.words.two.now in
      let U = c.args.guard.now.sheet.now in (
        turned_different 𝓣 s x y (rows_over 𝓣 s (shows U)) c.in-Some.origin c.in-Some.treatment c.in_default-treatment.not-Mend
            (turned_over 𝓣 s x y (shown c.view.result) (shows U) c.args.work.now c.args.self.now.agreed (Some (c.in-Some.origin, c.in-Some.treatment)) c.view.ensures.view c.in-Some.ensures.turned h.ready given_x given_y h.kept),
        record { sheet = refl; work = refl; sources = refl },
      );
}

pub returns-clause-went : goal.returns-clause-went
returns-clause-went g c = λ given_x given_y S ranked h.
    let 𝓣 = g.T.Tally.group in
    let s = c.args.survey.now in
    let x = c.args.self.now.words.one.now in
    let y = c.args.self.now.words.two.now in
    let U = c.args.guard.now.sheet.now in
    let turned = turned_over 𝓣 s x y (shown c.view.result) (shows U) c.args.work.now c.args.self.now.agreed (Some (c.in-Some.origin, c.in-Some.treatment)) c.view.ensures.view c.in-Some.ensures.turned h.ready given_x given_y h.kept in
    let same : shown c.view.result ≡ shows U = λ i A. c.view.ensures.view A i in
    let kept = subst (λ W. Ready 𝓣 s W c.args.work.now → Kept 𝓣 (surveyed s) (norm_in s) (first_in s) (rows_over 𝓣 s W) c.args.self.now.agreed →
    Kept 𝓣 (surveyed s) (norm_in s) (first_in s) (rows_over 𝓣 s W) c.first_wrong_pair-wrong.new.agreed) same c.in-Some.ensures.kept h.ready h.kept in
    let A = c.in-Mend.symbol in
    let r = c.in-Mend.row in
    let mends = subst (λ t. Turned 𝓣 (surveyed s) (norm_in s) (first_in s) (rows_over 𝓣 s (shows U)) x y (Some (c.in-Some.origin, t))) c.in-Mend.is turned in
    let found = turned_some 𝓣 s x y _ _ _ mends in
    let mended = written_of 𝓣 s (shows U) c.args.work.now h.ready x y given_x given_y c.in-Some.origin found.0 A r found.1 in
    let small : A < 32 = let few = s.skeleton.words.few in let l = mended.0 in omega arith in
    let word = c.as_slice-word.ensures in
    let sum = c.offset.ensures mended.0 (subst (λ z. length z ≤ 64) (sym word) (row_short r)) ∙ ap (offset 𝓣 (surveyed s) (first_in s) A) word in
    let written = c.write.ensures.view small in
    let more = going_more 𝓣 s x y given_x given_y S U c.args.work.now (record { words = c.args.self.now.words; agreed = c.first_wrong_pair-wrong.new.agreed; sources = c.args.self.now.sources }) ranked
    (record { ready = h.ready; kept = kept; history = h.history; reached = h.reached; extends = h.extends; rows = h.rows; trail = h.trail })
    c.in-Some.origin A r mends mended.0 mended.1 c.write.new.self.sheet.now c.add_row.new.self (record { words = c.args.self.now.words; agreed = c.before-2.new.self; sources = c.push.new.self })
    c.offset.result c.view-2.result.marks mended.2 sum written c.write.ensures.rows
    (subst (λ z. (n : ℕ) (norm : ℕ → ℕ) (D E : Sheet g.row.T.Denot) → Within 64 n norm → Ranked n norm (unweighed E) → Grown D A (record { word = z; tally = c.offset.result }) E → Works 𝓣 D c.args.work.now → Works 𝓣 E c.add_row.new.self) word c.add_row.ensures)
    (c.before-2.ensures small) (λ C. ap (λ l. view l c.view-2.result.marks.bits C) (sym c.view-2.ensures.rows) ∙ c.view-2.ensures.view C) c.push.ensures.len c.push.ensures.list in
    (record { origin = c.in-Some.origin; symbol = A; row = r; finds = mends; written = written }, more.0, more.1)
