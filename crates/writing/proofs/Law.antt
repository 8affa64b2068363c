-- The law of written files, over a grammar that can be written and rows that are legal over it.
--
-- The idea: rules and rows are found again where they were, so the file holds just what was given; and legal contents that hold the same have the same members, in the same order.
--
-- Assumes nothing.
use Rattle.std.proofs.Common.{◌≡◌, ℕ, ◌≤◌, List, length, Some, None, Option, Ok, sym, refl, ap, ◌∙◌, subst}
use Rattle.std.specs.Option.{option_map}
use Rattle.grammar.specs.Meaning.{Weighted, Meaning, WellFormed}
use Rattle.layout.specs.Contents.{Contents, LegalRows, Legal, encode}
use Rattle.layout.specs.Reading.{value_of, checked}
use Rattle.layout.specs.Wrong.{LegalRules}
use Rattle.layout.proofs.Law.{reads}
use Rattle.layout.proofs.Whole.{legal, legal_rules}
use Rattle.format.specs.Kinds.{Lossless}
use Rattle.file_grammar.specs.Filed.{rule_at, weighed, held}
use Rattle.rows.specs.Sheets.{View}
use Rattle.sheet.specs.Rowed.{row_at}
use Rattle.survey.specs.Refusals.{Fine}
use Rattle.calls.specs.Offers.{rows_in}
use Rattle.writing.specs.Files.{entry, rules_in, file_of}
use Rattle.writing.specs.Laws.{Holds, FileLaw}
use Rattle.writing.proofs.RuleLists.{rules_back, rules_legal}
use Rattle.writing.proofs.Same.{rules_one, rows_one}
use Rattle.writing.proofs.Names.{Unrefused}
use Rattle.writing.proofs.Sizes.{legal_short}

module _ {T : Type 0} (names ks : List ℕ) (numbers : T → List ℕ) (made : ℕ → ℕ → T) (lossless : Lossless ks numbers made) where
  module _ (few : length ks ≤ 2) (M : Meaning T) (V : View) where
    -- a rule that is written means itself
    entry_back : (A a : ℕ) (o : Option (Weighted T)) → option_map (weighed made) (option_map (entry numbers A a) o) ≡ o
    entry_back A a None = refl
    entry_back A a (Some m) = λ i. Some (record { word = m.word; tally = lossless.back few m.tally i })

    pub meaning_back : WellFormed M → length names ≡ M.count → held made (Ok (file_of names ks numbers M V)) ≡ M
    meaning_back F size = λ i. record { count = size i; rule = λ A a. same A a i }
      where
        same : (A a : ℕ) → option_map (weighed made) (rule_at A a (rules_in numbers M M.count)) ≡ M.rule A a
        same A a = ap (option_map (weighed made)) (rules_back numbers M F A a) ∙ entry_back A a (M.rule A a)

    -- legal contents that hold these have rules over as many symbols and kinds
    held_rules : (c : Contents) → Legal c → Holds names ks made M V c → LegalRules (length names) (length ks) c.rules
    held_rules c h holds = subst (λ (k : Contents). LegalRules (length k.names) (length k.kinds) c.rules) (λ i. record { names = holds.names i; kinds = holds.kinds i; rules = c.rules; rows = c.rows }) (legal_rules c h)

    -- legal contents that hold the same are the same
    pub one_written : (c d : Contents) → Legal c → Legal d → Holds names ks made M V c → Holds names ks made M V d → d ≡ c
    one_written c d c_legal d_legal c_holds d_holds = λ i. record { names = same_names i; kinds = same_kinds i; rules = same_rules i; rows = same_rows i }
      where
        same_names : d.names ≡ c.names
        same_names = d_holds.names ∙ sym c_holds.names

        same_kinds : d.kinds ≡ c.kinds
        same_kinds = d_holds.kinds ∙ sym c_holds.kinds

        same_meaning : held made (Ok d) ≡ held made (Ok c)
        same_meaning = d_holds.grammar ∙ sym c_holds.grammar

        same_rules : d.rules ≡ c.rules
        same_rules = rules_one ks numbers made lossless few (length names) d.rules c.rules (held_rules d d_legal d_holds) (held_rules c c_legal c_holds) (λ A a. ap (λ (N : Meaning T). N.rule A a) same_meaning)

        same_rows : d.rows ≡ c.rows
        same_rows = rows_one d.rows c.rows d_legal.rows.rising c_legal.rows.rising (λ A. d_holds.rows A ∙ sym (c_holds.rows A))

  module _ (M : Meaning T) (V : View) (F : WellFormed M) (fine : (A a : ℕ) → Fine M.count M A a) (few : M.count ≤ 32) (good : Unrefused M.count ks names)
      (rows : LegalRows M.count (rows_in V 32)) (back : (A : ℕ) → row_at A (rows_in V 32) ≡ V A) where
    abbrev written : Contents
    written = file_of names ks numbers M V

    written_legal : Legal written
    written_legal =
        legal names ks (rules_in numbers M M.count) (rows_in V 32) good.names good.kinds
        (subst (λ n. LegalRules n (length ks) (rules_in numbers M M.count)) (sym good.size) (rules_legal numbers M F fine few ks lossless.size lossless.small))
        (subst (λ n. LegalRows n (rows_in V 32)) (sym good.size) rows)

    written_holds : Holds names ks made M V written
    written_holds = record { names = refl; kinds = refl; grammar = meaning_back good.kinds.few M V F good.size; rows = back }

    written_read : checked ks (encode written) ≡ Ok written
    written_read = ap value_of (reads (length (encode written)) ks written written_legal refl)

    pub file_law : FileLaw names ks made M V written
    file_law = record {
      legal = written_legal;
      holds = written_holds;
      accepted = written_read;
      grammar = ap (held made) written_read ∙ written_holds.grammar;
      only = λ d h k. one_written good.kinds.few M V written d written_legal h written_holds k;
      short = legal_short written written_legal;
    }
