-- The whole file: what its reading comes to.
--
-- whole_came       from bytes, the reading comes to legal contents that the bytes encode, or to a fault that says what is wrong
-- whole_complete   the encoding of legal contents is read
-- reach            where bytes are read up to a field whose reading fails, the whole reading fails so
--
-- Assumes nothing.
use Rattle.std.proofs.Common.{◌≡◌, ℕ, List, [], ◌∷◌, ◌++◌, reverse, length, Err, Result, sym, refl, ap, ◌∙◌, subst, inl, inr, append_assoc, append-nil}
use Rattle.layout.specs.Contents.{FileRule, FileRow, Contents, LegalRows, Legal, two, four, joined, rule_bytes, row_bytes, rows_bytes, encode}
use Rattle.layout.specs.Reading as reading
use Rattle.layout.specs.Reading.{Read, Reading, then, given, place, same_kinds, whole}
use Rattle.layout.specs.Wrong.{Field, count, rule_count, name, kind, fit, rule, row, symbol, letter, number, end, LegalNames, LegalKinds, LegalRules, InRules, InRows, head, rules_front, rows_front, ReadTo, to_names, to_name, to_kinds, to_kind, to_fit, to_rules, to_rule, to_letter, to_number, to_length, to_word, to_rows, to_row, to_row_length, to_row_word, to_end, Wrong}
use Rattle.layout.specs.Laws.{Bytes}
use Rattle.layout.specs.declared.fault.Fault.{Fault}
use Rattle.layout.specs.declared.fault.Fault.TheVariants.{Order, Trailing, Kinds}
use Rattle.layout.proofs.Steps.{Came, came_here, came_err, came_then, came_given, then_ok, then_err, given_ok, given_err, false_when}
use Rattle.layout.proofs.Ordered.{behind}
use Rattle.layout.proofs.Numbers.{decides_same_kinds, Fails}
use Rattle.layout.proofs.Blame.{blame}
use Rattle.layout.proofs.Sections.{RuleReached, RowReached, names_came, kinds_came, rules_came, rows_came}
use Rattle.layout.proofs.Complete.{names_complete, names_fail, kinds_complete, kinds_fail, rules_complete, rules_fail, rows_complete, rows_fail, rule_after_symbol, rule_after_letter, rule_at_number, rule_at_length, rule_at_word, row_after_symbol, row_at_length, row_at_word}

-- the sections that make contents
pub legal : (ns ks : List ℕ) (rs : List FileRule) (ws : List FileRow) → LegalNames ns → LegalKinds ks → LegalRules (length ns) (length ks) rs → LegalRows (length ns) ws →
    Legal (record { names = ns; kinds = ks; rules = rs; rows = ws })
legal ns ks rs ws n k r w = record {
  some = n.some;
  few = n.few;
  names = n.each;
  apart = n.apart;
  kinds_few = k.few;
  kinds = k.each;
  kinds_rising = k.rising;
  rules_few = r.few;
  rules = r.each;
  rules_rising = r.rising;
  rows = w;
}

module _ (c : Contents) (h : Legal c) where
  pub legal_names : LegalNames c.names
  legal_names = record { some = h.some; few = h.few; each = h.names; apart = h.apart }

  pub legal_kinds : LegalKinds c.kinds
  legal_kinds = record { few = h.kinds_few; each = h.kinds; rising = h.kinds_rising }

  pub legal_rules : LegalRules (length c.names) (length c.kinds) c.rules
  legal_rules = record { few = h.rules_few; each = h.rules; rising = h.rules_rising }

-- where the fields of a rule and of a row are reached
module _ (ks ns : List ℕ) where
  to_rule_fields : (c : ℕ) (before : List FileRule) → InRules ks ns c before → RuleReached (ReadTo ks) (rules_front ns ks c before) (length ns) (length ks) before
  to_rule_fields c before h = record {
    at_symbol = to_rule ns c before h refl refl;
    at_letter = λ A i. to_letter ns c before A h i refl refl;
    at_number = λ A a xs i j l m u. to_number ns c before A a xs (record { section = h; symbol = i; letter = j; later = l }) m u refl refl;
    at_length = λ A a xs i j l m u. to_length ns c before A a xs (record { section = h; symbol = i; letter = j; later = l }) m u refl refl;
    at_word = λ A a xs l w i j t m u few more below. to_word ns c before A a xs l w (record { section = h; symbol = i; letter = j; later = t }) m u few more below refl refl;
  }

  to_row_fields : (rs : List FileRule) (c : ℕ) (before : List FileRow) → InRows ks ns rs c before → RowReached (ReadTo ks) (rows_front ns ks rs c before) (length ns) before
  to_row_fields rs c before h = record {
    at_symbol = to_row ns rs c before h refl refl;
    at_length = λ A i l. to_row_length ns rs c before A (record { section = h; symbol = i; later = l }) refl refl;
    at_word = λ A l w i t some few more below. to_row_word ns rs c before A l w (record { section = h; symbol = i; later = t }) some few more below refl refl;
  }

-- what is left of the reading behind the kinds
abbrev behind_kinds : ℕ → List ℕ → List ℕ → Reading Contents
behind_kinds total ns fs es =
    then (reading.rules total (length ns) (length fs) es) (λ rs gs. then (reading.rows total (length ns) gs) (λ ws hs. reading.ended total (record { names = ns; kinds = fs; rules = rs; rows = ws }) hs))

module _ (ks all : List ℕ) where
  abbrev pub Holds : Contents → List ℕ → Type 0
  Holds c r = (r ≡ []) × Legal c × (c.kinds ≡ ks) × (all ≡ encode c)

  blamed : (p rest : List ℕ) (F : Field) (f : Fault) → all ≡ p ++ rest → ReadTo ks p F → Fails (length all) ks F rest f → Wrong ks all f
  blamed p rest F f e to h = blame ks all p rest e F f to h

  ended_came : (c : Contents) (bs : List ℕ) → all ≡ encode c ++ bs → Legal c → c.kinds ≡ ks → Came (reading.ended (length all) c bs) Holds (Wrong ks all)
  ended_came c [] e h k = came_here c [] (refl, h, k, e ∙ append-nil (encode c))
  ended_came c (b ∷ bs) e h k =
      came_err (Trailing (place (length all) (b ∷ bs))) refl (blamed (encode c) (b ∷ bs) end (Trailing (place (length all) (b ∷ bs))) e (to_end c h k refl refl) (b, bs, refl, refl))

  module _ (bytes : Bytes all) where
    behind_kinds_came : (ns es : List ℕ) → LegalNames ns → LegalKinds ks → all ≡ head ns ks ++ es → Came (behind_kinds (length all) ns ks es) Holds (Wrong ks all)
    behind_kinds_came ns es h i on =
        came_then _ (rules_came (length all) ks all (Wrong ks all) (ReadTo ks) blamed bytes (head ns ks) es (length ns) (length ks) on (to_rules ns h i refl refl)
        (λ c before k. rw (← append_assoc (head ns ks) (two c) (joined rule_bytes before)) (to_rule_fields ks ns c before (record { names = h; kinds = i; rules = k })))) (λ rs gs k.
        let rules_on : all ≡ rules_front ns ks (length rs) rs ++ gs =
        behind all (head ns ks) (two (length rs) ++ joined rule_bytes rs) es gs on k.1 ∙ ap (λ l. l ++ gs) (sym (append_assoc (head ns ks) (two (length rs)) (joined rule_bytes rs))) in
        came_then _ (rows_came (length all) ks all (Wrong ks all) (ReadTo ks) blamed (rules_front ns ks (length rs) rs) gs (length ns) rules_on (to_rows ns rs h i k.0 refl refl)
        (λ c before t. to_row_fields ks ns rs c before (record { names = h; kinds = i; rules = k.0; rows = t }))) (λ ws hs t.
        ended_came (record { names = ns; kinds = ks; rules = rs; rows = ws }) hs (behind all (rules_front ns ks (length rs) rs) (rows_bytes ws) gs hs rules_on t.1) (legal ns ks rs ws h i k.0 t.0) refl))

    pub whole_came : Came (whole (length all) ks all) Holds (Wrong ks all)
    whole_came =
        came_then _ (names_came (length all) ks all (Wrong ks all) (ReadTo ks) blamed [] all refl (to_names refl refl) (λ n before h. to_name n before h refl refl)) (λ ns cs h.
        came_then _ (kinds_came (length all) ks all (Wrong ks all) (ReadTo ks) blamed (length ns ∷ ns) cs h.1 (to_kinds ns h.0 refl refl) (λ n before i. to_kind ns n before h.0 i refl refl)) (λ fs ds i.
        let on : all ≡ head ns fs ++ ds = behind all (length ns ∷ ns) (length fs ∷ fs) cs ds h.1 i.1 in
        came_then _ (came_given (same_kinds ks fs) Kinds fs ds (decides_same_kinds ks fs) (λ not. blamed (head ns fs) ds (fit fs) Kinds on (to_fit ns fs h.0 i.0 refl refl) (not, refl))) (λ gs es j.
        subst (λ l. Came (behind_kinds (length all) ns l es) Holds (Wrong ks all)) j.2
        (behind_kinds_came ns es h.0 (subst (λ l. LegalKinds l) (sym j.2) i.0) (on ∙ ap (λ l. head ns fs ++ l) (sym j.1) ∙ ap (λ l. head ns l ++ es) (sym j.2))))))

regroup : (a b c d : List ℕ) → ((a ++ b) ++ c) ++ d ≡ a ++ ((b ++ c) ++ d)
regroup a b c d = simp append_assoc

module _ (total : ℕ) (ks : List ℕ) where
  -- the reading behind legal names, behind legal kinds, behind the tally's kinds, behind legal rules
  after_names : (ns cs : List ℕ) → LegalNames ns →
      whole total ks ((length ns ∷ ns) ++ cs) ≡ then (reading.kinds total cs) (λ fs ds. then (given (same_kinds ks fs) Kinds fs ds) (λ _ es. behind_kinds total ns fs es))
  after_names ns cs h = then_ok _ _ ns cs (names_complete total ns cs h)

  after_head : (ns fs ds : List ℕ) → LegalNames ns → LegalKinds fs → whole total ks (head ns fs ++ ds) ≡ then (given (same_kinds ks fs) Kinds fs ds) (λ _ es. behind_kinds total ns fs es)
  after_head ns fs ds h i = ap (whole total ks) (append_assoc (length ns ∷ ns) (length fs ∷ fs) ds) ∙ after_names ns ((length fs ∷ fs) ++ ds) h ∙ then_ok _ _ fs ds (kinds_complete total fs ds i)

  after_kinds : (ns es : List ℕ) → LegalNames ns → LegalKinds ks → whole total ks (head ns ks ++ es) ≡ behind_kinds total ns ks es
  after_kinds ns es h i = after_head ns ks es h i ∙ then_ok _ _ ks es (given_ok (same_kinds ks ks) Kinds ks es ((decides_same_kinds ks ks).1 refl))

  after_rules : (ns : List ℕ) (rs : List FileRule) (gs : List ℕ) → LegalNames ns → LegalKinds ks → LegalRules (length ns) (length ks) rs →
      whole total ks (rules_front ns ks (length rs) rs ++ gs) ≡ then (reading.rows total (length ns) gs) (λ ws hs. reading.ended total (record { names = ns; kinds = ks; rules = rs; rows = ws }) hs)
  after_rules ns rs gs h i j =
      ap (whole total ks) (regroup (head ns ks) (two (length rs)) (joined rule_bytes rs) gs) ∙ after_kinds ns ((two (length rs) ++ joined rule_bytes rs) ++ gs) h i
      ∙ then_ok _ _ rs gs (rules_complete total (length ns) (length ks) rs gs j)

  after_rows : (ns : List ℕ) (rs : List FileRule) (ws : List FileRow) (rest : List ℕ) → Legal (record { names = ns; kinds = ks; rules = rs; rows = ws }) →
      whole total ks (rules_front ns ks (length rs) rs ++ rows_bytes ws ++ rest) ≡ reading.ended total (record { names = ns; kinds = ks; rules = rs; rows = ws }) rest
  after_rows ns rs ws rest h =
      let c : Contents = record { names = ns; kinds = ks; rules = rs; rows = ws } in
      ap (whole total ks) (append_assoc (rules_front ns ks (length rs) rs) (rows_bytes ws) rest) ∙ after_rules ns rs (rows_bytes ws ++ rest) (legal_names c h) (legal_kinds c h) (legal_rules c h)
      ∙ then_ok _ _ ws rest (rows_complete total (length ns) ws rest h.rows)

  pub whole_complete : (c : Contents) (rest : List ℕ) → Legal c → c.kinds ≡ ks → whole total ks (encode c ++ rest) ≡ reading.ended total c rest
  whole_complete c rest h same =
      at c.kinds same h
    where
      at : (fs : List ℕ) → fs ≡ ks → Legal (record { names = c.names; kinds = fs; rules = c.rules; rows = c.rows }) →
          whole total ks (rules_front c.names fs (length c.rules) c.rules ++ rows_bytes c.rows ++ rest) ≡ reading.ended total (record { names = c.names; kinds = fs; rules = c.rules; rows = c.rows }) rest
      at fs e h = rw e (after_rows c.names c.rules c.rows rest (rw e at h))

  -- inside the rules and inside the rows
  in_rules : (ns : List ℕ) (c : ℕ) (before : List FileRule) (rest : List ℕ) (f : Fault) → InRules ks ns c before → reading.rule total (length ns) (length ks) (reverse before) rest ≡ Err f →
      whole total ks (rules_front ns ks c before ++ rest) ≡ Err f
  in_rules ns c before rest f h e =
      ap (whole total ks) (regroup (head ns ks) (two c) (joined rule_bytes before) rest) ∙ after_kinds ns ((two c ++ joined rule_bytes before) ++ rest) h.names h.kinds
      ∙ then_err _ _ f (rules_fail total (length ns) (length ks) c before rest f h.rules e)

  in_rows : (ns : List ℕ) (rs : List FileRule) (c : ℕ) (before : List FileRow) (rest : List ℕ) (f : Fault) → InRows ks ns rs c before → reading.row total (length ns) (reverse before) rest ≡ Err f →
      whole total ks (rows_front ns ks rs c before ++ rest) ≡ Err f
  in_rows ns rs c before rest f h e =
      ap (whole total ks) (append_assoc (rules_front ns ks (length rs) rs) (c ∷ joined row_bytes before) rest) ∙ after_rules ns rs (c ∷ joined row_bytes before ++ rest) h.names h.kinds h.rules
      ∙ then_err _ _ f (rows_fail total (length ns) c before rest f h.rows e)

  module _ (rest : List ℕ) (f : Fault) where
    fails_at : (F G : Field) → F ≡ G → Fails total ks F rest f → Fails total ks G rest f
    fails_at F G e h = subst (λ H. Fails total ks H rest f) e h

    at_front : (p q : List ℕ) → p ≡ q → whole total ks (q ++ rest) ≡ Err f → whole total ks (p ++ rest) ≡ Err f
    at_front p q e h = ap (λ l. whole total ks (l ++ rest)) e ∙ h

    rule_first : (n k : ℕ) (before : List FileRule) → Fails total ks (rule n before) rest f → reading.rule total n k (reverse before) rest ≡ Err f
    rule_first n k before (inl h) = then_err _ _ f h
    rule_first n k before (inr h) =
        ap (reading.rule total n k (reverse before)) h.3 ∙ rule_after_letter total n k before h.0 h.1 h.2 h.4 h.5 h.6
        ∙ ap {B = Result (Read FileRule) Fault} Err (ap (λ l. Order (place total l)) (sym h.3) ∙ sym h.7)

    row_first : (n : ℕ) (before : List FileRow) → Fails total ks (row n before) rest f → reading.row total n (reverse before) rest ≡ Err f
    row_first n before (inl h) = then_err _ _ f h
    row_first n before (inr h) =
        ap (reading.row total n (reverse before)) h.2 ∙ row_after_symbol total n before h.0 h.1 h.3 h.4
        ∙ ap {B = Result (Read FileRow) Fault} Err (ap (λ l. Order (place total l)) (sym h.2) ∙ sym h.5)

    pub reach : (p : List ℕ) (F : Field) → ReadTo ks p F → Fails total ks F rest f → whole total ks (p ++ rest) ≡ Err f
    reach p F (to_names e d) h = at_front p [] e (then_err _ _ f (then_err _ _ f (fails_at F (count 1 32) d h)))
    reach p F (to_name n before i e d) h = at_front p (n ∷ before) e (then_err _ _ f (names_fail total n before rest f i (fails_at F (name before) d h)))
    reach p F (to_kinds ns i e d) h = at_front p (length ns ∷ ns) e (after_names ns rest i ∙ then_err _ _ f (then_err _ _ f (fails_at F (count 0 2) d h)))
    reach p F (to_kind ns n before i j e d) h =
        at_front p ((length ns ∷ ns) ++ (n ∷ before)) e
        (ap (whole total ks) (append_assoc (length ns ∷ ns) (n ∷ before) rest) ∙ after_names ns ((n ∷ before) ++ rest) i ∙ then_err _ _ f (kinds_fail total n before rest f j (fails_at F (kind before) d h)))
    reach p F (to_fit ns fs i j e d) h =
        let k = fails_at F (fit fs) d h in
        at_front p (head ns fs) e
        (after_head ns fs rest i j ∙ then_err _ _ Kinds (given_err (same_kinds ks fs) Kinds fs rest (false_when (same_kinds ks fs) (decides_same_kinds ks fs) k.0)) ∙ ap {B = Result (Read Contents) Fault} Err (sym k.1))
    reach p F (to_rules ns i j e d) h = at_front p (head ns ks) e (after_kinds ns rest i j ∙ then_err _ _ f (then_err _ _ f (fails_at F rule_count d h)))
    reach p F (to_rule ns c before i e d) h = at_front p (rules_front ns ks c before) e (in_rules ns c before rest f i (rule_first (length ns) (length ks) before (fails_at F (rule (length ns) before) d h)))
    reach p F (to_letter ns c before A i j e d) h =
        at_front p (rules_front ns ks c before ++ (A ∷ [])) e
        (ap (whole total ks) (append_assoc (rules_front ns ks c before) (A ∷ []) rest)
        ∙ in_rules ns c before (A ∷ rest) f i (rule_after_symbol total (length ns) (length ks) before A rest f j (fails_at F letter d h)))
    reach p F (to_number ns c before A a xs i m u e d) h =
        at_front p (rules_front ns ks c before ++ (A ∷ a ∷ joined four xs)) e
        (ap (whole total ks) (append_assoc (rules_front ns ks c before) (A ∷ a ∷ joined four xs) rest)
        ∙ in_rules ns c before (A ∷ a ∷ joined four xs ++ rest) f i.section
        (rule_at_number total (length ns) (length ks) before A a i.symbol i.letter i.later xs rest f m (fails_at F number d h)))
    reach p F (to_length ns c before A a xs i m u e d) h =
        at_front p (rules_front ns ks c before ++ (A ∷ a ∷ joined four xs)) e
        (ap (whole total ks) (append_assoc (rules_front ns ks c before) (A ∷ a ∷ joined four xs) rest)
        ∙ in_rules ns c before (A ∷ a ∷ joined four xs ++ rest) f i.section
        (rule_at_length total (length ns) (length ks) before A a i.symbol i.letter i.later xs rest f m (fails_at F (count 0 4) d h)))
    reach p F (to_word ns c before A a xs l w i m u few more below e d) h =
        at_front p (rules_front ns ks c before ++ (A ∷ a ∷ joined four xs) ++ (l ∷ w)) e
        (ap (whole total ks) (append_assoc (rules_front ns ks c before ++ (A ∷ a ∷ joined four xs)) (l ∷ w) rest ∙ append_assoc (rules_front ns ks c before) (A ∷ a ∷ joined four xs) (l ∷ w ++ rest))
        ∙ in_rules ns c before (A ∷ a ∷ joined four xs ++ (l ∷ w ++ rest)) f i.section
        (rule_at_word total (length ns) (length ks) before A a i.symbol i.letter i.later xs l w rest f m few more below (fails_at F (symbol (length ns)) d h)))
    reach p F (to_rows ns rs i j k e d) h = at_front p (rules_front ns ks (length rs) rs) e (after_rules ns rs rest i j k ∙ then_err _ _ f (then_err _ _ f (fails_at F (count 0 31) d h)))
    reach p F (to_row ns rs c before i e d) h = at_front p (rows_front ns ks rs c before) e (in_rows ns rs c before rest f i (row_first (length ns) before (fails_at F (row (length ns) before) d h)))
    reach p F (to_row_length ns rs c before A i e d) h =
        at_front p (rows_front ns ks rs c before ++ (A ∷ [])) e
        (ap (whole total ks) (append_assoc (rows_front ns ks rs c before) (A ∷ []) rest)
        ∙ in_rows ns rs c before (A ∷ rest) f i.section (row_at_length total (length ns) before A rest f i.symbol i.later (fails_at F (count 1 64) d h)))
    reach p F (to_row_word ns rs c before A l w i some few more below e d) h =
        at_front p (rows_front ns ks rs c before ++ (A ∷ l ∷ w)) e
        (ap (whole total ks) (append_assoc (rows_front ns ks rs c before) (A ∷ l ∷ w) rest)
        ∙ in_rows ns rs c before (A ∷ l ∷ w ++ rest) f i.section (row_at_word total (length ns) before A l w rest f i.symbol i.later some few more below (fails_at F (symbol (length ns)) d h)))
    reach p F (to_end c i same e d) h =
        let k = fails_at F end d h in
        at_front p (encode c) e
        (whole_complete c rest i same ∙ ap (reading.ended total c) k.2 ∙ ap {B = Result (Read Contents) Fault} Err (ap (λ l. Trailing (place total l)) (sym k.2) ∙ sym k.3))
