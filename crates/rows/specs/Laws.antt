-- What is proved of rows, in a grammar with positive norms.
--
-- Total 𝓣 D           every word has a normal form
-- RowLaws 𝓣 M norm    the laws of rows in the grammar M
-- RowsLaw 𝓣           they hold in every well-formed grammar with positive norms
--
-- Assumes nothing.
use Rattle.std.specs.Prelude.{◌≡◌, ℕ, ◌<◌, ◌≤◌, Some}
use Rattle.tally.specs.Group.{Group}
use Rattle.grammar.specs.Meaning.{Word, Weighted, Meaning, Below, WellFormed}
use Rattle.grammar.specs.Takes.{Same}
use Rattle.norm.specs.Norms.{norms}
use Rattle.rows.specs.Sheets.{Sheet, unweighed, Normal, Agrees, SelfProving, Proves, TrueRow, Ranked, Extends, marked}
use Rattle.rows.specs.Replacing.{Replacing, put, gain, just, after, Normals, Grown}

abbrev pub Total : {T : Type 0} → Group T → Sheet T → Type 0
Total {T} 𝓣 D = (x : Word) → (z : Word) × (s : T) × Normal 𝓣 D x z s

pub record RowLaws {T : Type 0} (𝓣 : Group T) (M : Meaning T) (norm : ℕ → ℕ) : Type 0 where
  -- a word has at most one normal form, and has one where the rows are ranked
  pub once : (D : Sheet T) (x z y : Word) (s t : T) → Normal 𝓣 D x z s → Normal 𝓣 D x y t → (z ≡ y) × (s ≡ t)
  pub there : (D : Sheet T) → Ranked M.count norm (unweighed D) → Total 𝓣 D
  -- rows that prove themselves are true, and a pair that they prove is the same
  pub true_rows : (D : Sheet T) → Ranked M.count norm (unweighed D) → SelfProving 𝓣 M D → (A : ℕ) (m : Weighted T) → D A ≡ Some m → TrueRow 𝓣 M A m
  pub proved_same : (D : Sheet T) → Ranked M.count norm (unweighed D) → SelfProving 𝓣 M D → (x y : Word) → Proves 𝓣 D x y → Same 𝓣 M x y
  -- there are fewer rows than symbols
  pub fewer : (D : Sheet T) → Ranked M.count norm (unweighed D) → 1 ≤ M.count → marked D M.count < M.count
  -- rows for symbols that have none keep every agreement and every proved pair
  pub more_agree : (D E : Sheet T) → Extends D E → Ranked M.count norm (unweighed E) → (A : ℕ) (m : Weighted T) (a : ℕ) → Agrees 𝓣 M D A m a → Agrees 𝓣 M E A m a
  pub more_prove : (D E : Sheet T) → Extends D E → Ranked M.count norm (unweighed E) → (x y : Word) → Proves 𝓣 D x y → Proves 𝓣 E x y
  -- a normal form has the norm of its word, and names known symbols only
  pub norm_kept : (D : Sheet T) → Ranked M.count norm (unweighed D) → (x z : Word) (s : T) → Normal 𝓣 D x z s → norms norm z ≡ norms norm x
  pub below_kept : (D : Sheet T) → Ranked M.count norm (unweighed D) → (x z : Word) (s : T) → Normal 𝓣 D x z s → Below M.count x → Below M.count z
  -- the normal form of a word is made of those of its symbols
  pub normal_word : (D : Sheet T) (n : ℕ) (ρ : Replacing T) → Normals 𝓣 D n ρ → (x : Word) → Below n x → Normal 𝓣 D x (put ρ x) (gain 𝓣 ρ x)
  -- one more row: its word has the normal form that it had, which is put for the row's symbol in every other normal form
  pub row_unused : (D E : Sheet T) (A : ℕ) (m : Weighted T) → Grown D A m E → Ranked M.count norm (unweighed E) → (z : Word) (s : T) →
      Normal 𝓣 D m.word z s → Normal 𝓣 E m.word z s
  pub normal_grown : (D E : Sheet T) (A : ℕ) (m : Weighted T) → Grown D A m E → (z : Word) (s : T) → Normal 𝓣 E m.word z s → (x y : Word) (t : T) → Normal 𝓣 D x y t →
      let σ = just 𝓣 A (record { word = z; tally = 𝓣.add m.tally s }) in Normal 𝓣 E x (put σ y) (𝓣.add t (gain 𝓣 σ y))
  pub normals_grown : (D E : Sheet T) (A : ℕ) (m : Weighted T) → Grown D A m E → Ranked M.count norm (unweighed E) → (n : ℕ) (ρ : Replacing T) → Normals 𝓣 D n ρ → (z : Word) (s : T) →
      Normal 𝓣 D m.word z s → Normals 𝓣 E n (after 𝓣 (just 𝓣 A (record { word = z; tally = 𝓣.add m.tally s })) ρ)

abbrev pub RowsLaw : {T : Type 0} → Group T → Type 0
RowsLaw {T} 𝓣 = (M : Meaning T) (norm : ℕ → ℕ) → WellFormed M → ((A : ℕ) → A < M.count → 1 ≤ norm A) → RowLaws 𝓣 M norm
