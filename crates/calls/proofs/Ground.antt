-- What the law stands on: a grammar that is not refused, with its laws; and views as sheets with their offsets. Assumes nothing.
use Rattle.std.proofs.Common.{◌≡◌, ℕ, zero, suc, ◌+◌, ◌<◌, ◌≤◌, cond, [], ◌∷◌, length, Some, None, Option, sym, refl, ap, ap₂, ◌∙◌, eq-eqb, ne_eqb, arith}
use native.Mathlib.Decide.{ℕ_discrete}
use Rattle.std.specs.Option.{option_map}
use Rattle.tally.specs.Group.{Group}
use Rattle.grammar.specs.Meaning.{Word, Input, Weighted, Meaning, WellFormed}
use Rattle.grammar.proofs.Options.{none_some, some_none, some_same}
use Rattle.norm.specs.Norms.{Taken, Normed, Closed}
use Rattle.norm.specs.Laws.{NormLaws}
use Rattle.norm.proofs.Lawful.{norm_laws}
use Rattle.rows.specs.Sheets.{View, offset, weighed, unweighed, SelfProving, Shaped, Ranked, Extends, tell, marked}
use Rattle.rows.specs.Laws.{RowLaws}
use Rattle.rows.proofs.Standing.{rows_law}
use Rattle.sheet.specs.Rowed.{with_row}
use Rattle.survey.specs.Refusals.{Accepted}

module _ {T : Type 0} (𝓣 : Group T) (M : Meaning T) (norm : ℕ → ℕ) (first : ℕ → Input) where
  -- at most 32 symbols with norms of at most 64, rules that name only these, and the laws
  pub record Ground : Type 0 where
    pub some : 1 ≤ M.count
    pub few : M.count ≤ 32
    pub small : (A : ℕ) → A < M.count → norm A ≤ 64
    pub closed : Closed M
    pub taken : (A : ℕ) → A < M.count → Taken 𝓣 M (A ∷ []) (first A)
    pub norm_laws : NormLaws 𝓣 M norm first
    pub row_laws : RowLaws 𝓣 M norm

  pub ground : WellFormed M → Accepted 32 64 𝓣 M → Normed 𝓣 M norm first → Ground
  ground F G N = record {
    some = G.sized.some;
    few = G.sized.few;
    small = λ A l. small A (G.norms A l).0 (G.norms A l).1 (G.norms A l).2;
    closed = closed;
    taken = λ A l. (N.first_input A l).taken;
    norm_laws = laws;
    row_laws = rows_law 𝓣 M norm F (λ A l. laws.positive A l);
  }
    where
      closed : Closed M
      closed A a = (G.rules A a).known

      laws : NormLaws 𝓣 M norm first
      laws = norm_laws 𝓣 M norm first F closed N

      small : (A : ℕ) (s : Input) → Taken 𝓣 M (A ∷ []) s → length s ≤ 64 → norm A ≤ 64
      small A s t l = let h = laws.shortest (A ∷ []) s t in omega arith

  -- the rows of V may be rows, and prove themselves
  pub record Standing (V : View) : Type 0 where
    pub ranked : Ranked M.count norm V
    pub proving : SelfProving 𝓣 M (weighed 𝓣 M first V)

module _ {T : Type 0} (𝓣 : Group T) (M : Meaning T) (first : ℕ → Input) (V : View) where
  abbrev weigh : ℕ → Word → Weighted T
  weigh A w = record { word = w; tally = offset 𝓣 M first A w }

  -- a row with its offset, and a row of the sheet without it
  pub weighed_some : (A : ℕ) (w : Word) → V A ≡ Some w → weighed 𝓣 M first V A ≡ Some (weigh A w)
  weighed_some A w e = ap (option_map (weigh A)) e

  pub weighed_word : (A : ℕ) (m : Weighted T) → weighed 𝓣 M first V A ≡ Some m → V A ≡ Some m.word
  weighed_word A m e = go (V A) e
    where
      go : (o : Option Word) → option_map (weigh A) o ≡ Some m → o ≡ Some m.word
      go None d = absurd (none_some d)
      go (Some w) d = ap (option_map (λ (k : Weighted T). k.word)) d

  pub weighed_free : (A : ℕ) → weighed 𝓣 M first V A ≡ None → V A ≡ None
  weighed_free A e = go (V A) e
    where
      go : (o : Option Word) → option_map (weigh A) o ≡ None → o ≡ None
      go None d = refl
      go (Some w) d = absurd (some_none d)

  pub weighed_ranked : (n : ℕ) (norm : ℕ → ℕ) → Ranked n norm V → Ranked n norm (unweighed (weighed 𝓣 M first V))
  weighed_ranked n norm ranked A w e = ranked A w (go (V A) e)
    where
      go : (o : Option Word) → option_map (λ (m : Weighted T). m.word) (option_map (weigh A) o) ≡ Some w → o ≡ Some w
      go None d = absurd (none_some d)
      go (Some v) d = d

  pub weighed_marked : (n : ℕ) → marked (weighed 𝓣 M first V) n ≡ marked V n
  weighed_marked zero = refl
  weighed_marked (suc n) = ap₂ ◌+◌ (go (V n)) (weighed_marked n)
    where
      go : (o : Option Word) → tell (option_map (weigh n) o) ≡ tell o
      go None = refl
      go (Some w) = refl

  pub weighed_extends : (W : View) → Extends V W → Extends (weighed 𝓣 M first V) (weighed 𝓣 M first W)
  weighed_extends W more A m e = go (V A) refl e
    where
      go : (o : Option Word) → V A ≡ o → option_map (weigh A) o ≡ Some m → weighed 𝓣 M first W A ≡ Some m
      go None d f = absurd (none_some f)
      go (Some w) d f = ap (option_map (weigh A)) (more A w d) ∙ f

-- one row more, for a symbol that has none
module _ (n : ℕ) (norm : ℕ → ℕ) (V W : View) (A : ℕ) (w : Word) (set : (C : ℕ) → W C ≡ with_row V A w C) where
  here : (C : ℕ) → C ≡ A → W C ≡ Some w
  here C e = set C ∙ ap (λ b. cond b (Some w) (V C)) (eq-eqb C A e)

  other : (C : ℕ) → ¬ (C ≡ A) → W C ≡ V C
  other C ne = set C ∙ ap (λ b. cond b (Some w) (V C)) (ne_eqb C A ne)

  pub more_ranked : Ranked n norm V → Shaped n norm A w → Ranked n norm W
  more_ranked ranked shaped C v e = go (ℕ_discrete C A)
    where
      go : Dec (C ≡ A) → Shaped n norm C v
      go (yes d) = let same : w ≡ v = some_same (sym (here C d) ∙ e) in rw (d, ← same) shaped
      go (no ne) = ranked C v (sym (other C ne) ∙ e)

  pub more_extends : V A ≡ None → Extends V W
  more_extends free C v e = go (ℕ_discrete C A)
    where
      go : Dec (C ≡ A) → W C ≡ Some v
      go (yes d) = absurd (none_some (sym free ∙ ap V (sym d) ∙ e))
      go (no ne) = other C ne ∙ e
