-- From an input on which something fails back to the given words.
--
-- lead_of o f            what an input shows on which the pair of the origin o fails with f: a row that is not true, or that the given words differ
-- lead_input o f s       that input, made from the one that was tried
-- Leads … D x y r s      the given words x and y differ on s, or the row of D that r names is not true on it
--
-- Assumes nothing.
use Rattle.std.specs.Prelude.{◌∷◌, Some, None, Option}
use Rattle.tally.specs.Group.{Group}
use Rattle.grammar.specs.Meaning.{Word, Input, Meaning}
use Rattle.rows.specs.Sheets.{Sheet}
use Rattle.witness.specs.Alike.{AlikeOn}
use Rattle.walk.specs.Blames.{Untrue, piece}
use Rattle.comparison.specs.declared.failing.Failing.{Failing}
use Rattle.comparison.specs.declared.failing.Failing.TheVariants as failings
use Rattle.comparison.specs.declared.lead.Lead.{Lead}
use Rattle.comparison.specs.declared.lead.Lead.TheVariants as leads
use Rattle.comparison.specs.declared.origin.Origin.{Origin}
use Rattle.comparison.specs.declared.origin.Origin.TheVariants.{Given, Row}

abbrev pub lead_of : Origin → Failing → Lead
lead_of o (failings.Row b) = leads.Row b.symbol
lead_of Given failings.Pair = leads.Words
lead_of (Row A a) failings.Pair = leads.Row A

abbrev pub lead_input : Origin → Failing → Input → Input
lead_input o (failings.Row b) s = piece b s
lead_input Given failings.Pair s = s
lead_input (Row A a) failings.Pair s = a ∷ s

module _ {T : Type 0} (𝓣 : Group T) (M : Meaning T) (D : Sheet T) (x y : Word) where
  abbrev pub Leads : Option Lead → Input → Type 0
  Leads None s = ⊥
  Leads (Some leads.Words) s = ¬ AlikeOn 𝓣 M 𝓣.zero 𝓣.zero x y s
  Leads (Some (leads.Row A)) s = Untrue 𝓣 M D A s
