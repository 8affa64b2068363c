-- The pair lemma: where two words that begin apart do not differ on some inputs, the row for their first symbols is true.
--
-- The idea: A x and B y do not differ on c, and A's run over B's first input leads to what is left of A. So B, what is left and x take c as A x does (replaced).
-- What stands behind both, x, is cancelled with its first input, the shortest that it takes (right_cancel).
--
-- Assumes nothing.
use Rattle.std.proofs.Common.{◌≡◌, ℕ, ◌≤◌, [], ◌∷◌, ◌++◌, length, Some, None, Option, sym, refl, ap, ◌∙◌, append_assoc, append-nil, arith, length-append}
use Rattle.tally.specs.Group.{Group}
use Rattle.grammar.specs.Meaning.{Word, Input, Weighted, Meaning}
use Rattle.grammar.specs.Takes.{shift, takes}
use Rattle.grammar.proofs.Options.{none_some, some_same}
use Rattle.grammar.proofs.Takes.{compose, split}
use Rattle.norm.specs.Words.{ran}
use Rattle.rows.proofs.Sound.{left_comm}
use Rattle.witness.specs.Alike.{AlikeOn}
use Rattle.witness.proofs.Sums.{cancel, shift_some, beside, shifted}
use Rattle.witness.proofs.Runs.{run_on}
use Rattle.witness.proofs.Fronts.{within, same_lengths, taken_both, one_front}

-- an input in two parts, the first of them in two
rejoined : (a b c d z : Input) → c ≡ a ++ b → z ≡ c ++ d → a ++ (b ++ d) ≡ z ++ []
rejoined a b c d z e f = sym (append_assoc a b d) ∙ ap (λ l. l ++ d) (sym e) ∙ sym f ∙ sym (append-nil z)

module _ {T : Type 0} (𝓣 : Group T) where
  -- two options, each of which is there if the other is, with sums that match
  pub meet : (g f : T) (m n : Option T) → ((t : T) → m ≡ Some t → (w : T) × (n ≡ Some w) × (𝓣.add g w ≡ 𝓣.add f t)) →
      ((w : T) → n ≡ Some w → (t : T) × (m ≡ Some t) × (𝓣.add g w ≡ 𝓣.add f t)) → shift 𝓣 g n ≡ shift 𝓣 f m
  meet g f None None there back = refl
  meet g f None (Some w) there back = absurd (none_some (back w refl).1)
  meet g f (Some t) n there back = let i = there t refl in rw i.1 (ap {B = Option T} Some i.2)

  crossed : (X Y t q1 q2 g q3 f : T) → 𝓣.add X t ≡ 𝓣.add Y (𝓣.add q1 q2) → 𝓣.add X (𝓣.add g q3) ≡ 𝓣.add Y (𝓣.add f q2) → 𝓣.add g (𝓣.add q1 q3) ≡ 𝓣.add f t
  crossed X Y t q1 q2 g q3 f e1 e2 = cancel 𝓣 (𝓣.add X (𝓣.add Y q2)) (𝓣.add g (𝓣.add q1 q3)) (𝓣.add f t) (one ∙ two ∙ three)
    where
      one : 𝓣.add (𝓣.add X (𝓣.add Y q2)) (𝓣.add g (𝓣.add q1 q3)) ≡ 𝓣.add (𝓣.add X (𝓣.add g q3)) (𝓣.add Y (𝓣.add q1 q2))
      one = simp (𝓣.assoc, 𝓣.comm, left_comm 𝓣)

      two : 𝓣.add (𝓣.add X (𝓣.add g q3)) (𝓣.add Y (𝓣.add q1 q2)) ≡ 𝓣.add (𝓣.add Y (𝓣.add f q2)) (𝓣.add X t)
      two = rw (e2, ← e1)

      three : 𝓣.add (𝓣.add Y (𝓣.add f q2)) (𝓣.add X t) ≡ 𝓣.add (𝓣.add X (𝓣.add Y q2)) (𝓣.add f t)
      three = simp (𝓣.assoc, 𝓣.comm, left_comm 𝓣)

  -- the same with names for what stands between
  crossed_there : (X Y t b q1 q2 g q3 w f : T) → 𝓣.add X t ≡ 𝓣.add Y b → b ≡ 𝓣.add q1 q2 → 𝓣.add g q3 ≡ w → 𝓣.add Y (𝓣.add f q2) ≡ 𝓣.add X w → 𝓣.add g (𝓣.add q1 q3) ≡ 𝓣.add f t
  crossed_there X Y t b q1 q2 g q3 w f e1 e2 e3 e4 = crossed X Y t q1 q2 g q3 f (e1 ∙ ap (𝓣.add Y) e2) (ap (𝓣.add X) e3 ∙ sym e4)

  crossed_back : (X Y t b q1 q2 g q3 w f : T) → 𝓣.add Y (𝓣.add q1 q2) ≡ 𝓣.add X t → b ≡ 𝓣.add q1 q3 → 𝓣.add f q2 ≡ w → 𝓣.add X (𝓣.add g q3) ≡ 𝓣.add Y w → 𝓣.add g b ≡ 𝓣.add f t
  crossed_back X Y t b q1 q2 g q3 w f e1 e2 e3 e4 = ap (𝓣.add g) e2 ∙ crossed X Y t q1 q2 g q3 f (sym e1) (e4 ∙ ap (𝓣.add Y) (sym e3))

  -- one tally is cancelled on the right
  uncrossed : (x g p f q1 q2 : T) → q2 ≡ x → 𝓣.add g (𝓣.add p x) ≡ 𝓣.add f (𝓣.add q1 q2) → 𝓣.add g p ≡ 𝓣.add f q1
  uncrossed x g p f q1 q2 h e = cancel 𝓣 x (𝓣.add g p) (𝓣.add f q1) (turn g p ∙ e ∙ ap (λ v. 𝓣.add f (𝓣.add q1 v)) h ∙ sym (turn f q1))
    where
      turn : (a b : T) → 𝓣.add x (𝓣.add a b) ≡ 𝓣.add a (𝓣.add b x)
      turn a b = 𝓣.comm x (𝓣.add a b) ∙ 𝓣.assoc a b x

module _ {T : Type 0} (𝓣 : Group T) (M : Meaning T) where
  -- one side of the cancellation on the right
  half : (P Q x : Word) (X : Input) (tX g f : T) (z : Input) → takes 𝓣 M x X ≡ Some tX → ((s : Input) (t : T) → takes 𝓣 M x s ≡ Some t → length X ≤ length s) →
      AlikeOn 𝓣 M g f (P ++ x) (Q ++ x) (z ++ X) →
      ((z1 z2 : Input) (t : T) → z ≡ z1 ++ z2 → takes 𝓣 M Q z1 ≡ Some t → AlikeOn 𝓣 M g f (P ++ x) (Q ++ x) (z1 ++ X)) →
      (p : T) → takes 𝓣 M P z ≡ Some p → (q : T) × (takes 𝓣 M Q z ≡ Some q) × (𝓣.add g p ≡ 𝓣.add f q)
  half P Q x X tX g f z ex least here front p e =
      let a = taken_both 𝓣 M P x (z ++ X) z X p tX refl e ex in
      let b = beside 𝓣 g f (𝓣.add p tX) (takes 𝓣 M (P ++ x) (z ++ X)) (takes 𝓣 M (Q ++ x) (z ++ X)) a here in
      let i = split 𝓣 M (z ++ X) Q x b.0 b.1 in
      let l = least i.back i.second i.takes_back in
      let m = same_lengths z X i.front i.back i.joined in
      let w = within i.front i.back z X (sym i.joined) (omega arith) in
      go w.0 i.front i.back i.first i.second w.1 w.2 i.takes_front i.takes_back (b.2 ∙ ap (𝓣.add f) i.adds_up)
    where
      go : (d z1 r : Input) (q1 q2 : T) → z ≡ z1 ++ d → r ≡ d ++ X → takes 𝓣 M Q z1 ≡ Some q1 → takes 𝓣 M x r ≡ Some q2 → 𝓣.add g (𝓣.add p tX) ≡ 𝓣.add f (𝓣.add q1 q2) →
          (q : T) × (takes 𝓣 M Q z ≡ Some q) × (𝓣.add g p ≡ 𝓣.add f q)
      go [] z1 r q1 q2 h k eq er s =
          let same : z1 ≡ z = sym (append-nil z1) ∙ sym h in
          let tally : q2 ≡ tX = some_same (sym er ∙ ap (takes 𝓣 M x) k ∙ ex) in
          (q1, ap (takes 𝓣 M Q) (sym same) ∙ eq, uncrossed 𝓣 tX g p f q1 q2 tally s)
      go (a ∷ d) z1 r q1 q2 h k eq er s =
          let n = taken_both 𝓣 M Q x (z1 ++ X) z1 X q1 tX refl eq ex in
          let b = beside 𝓣 f g (𝓣.add q1 tX) (takes 𝓣 M (Q ++ x) (z1 ++ X)) (takes 𝓣 M (P ++ x) (z1 ++ X)) n (sym (front z1 (a ∷ d) q1 h eq)) in
          let i = split 𝓣 M (z1 ++ X) P x b.0 b.1 in
          let l = least i.back i.second i.takes_back in
          let m = same_lengths z1 X i.front i.back i.joined in
          let w = within i.front i.back z1 X (sym i.joined) (omega arith) in
          let zl = ap length h in
          let al = length-append z1 (a ∷ d) in
          let whole = rejoined i.front w.0 z1 (a ∷ d) z w.1 h in
          let o = one_front 𝓣 M P i.front (w.0 ++ (a ∷ d)) z [] i.first p i.takes_front e whole (omega arith) in
          let same = ap length o.0 in
          absurd (omega arith)

  -- what stands behind both words is cancelled
  pub right_cancel : (P Q x : Word) (X : Input) (tX g f : T) (z : Input) → takes 𝓣 M x X ≡ Some tX → ((s : Input) (t : T) → takes 𝓣 M x s ≡ Some t → length X ≤ length s) →
      AlikeOn 𝓣 M g f (P ++ x) (Q ++ x) (z ++ X) →
      ((z1 z2 : Input) (t : T) → z ≡ z1 ++ z2 → takes 𝓣 M P z1 ≡ Some t → AlikeOn 𝓣 M g f (P ++ x) (Q ++ x) (z1 ++ X)) →
      ((z1 z2 : Input) (t : T) → z ≡ z1 ++ z2 → takes 𝓣 M Q z1 ≡ Some t → AlikeOn 𝓣 M g f (P ++ x) (Q ++ x) (z1 ++ X)) →
      AlikeOn 𝓣 M g f P Q z
  right_cancel P Q x X tX g f z ex least here frontP frontQ =
      meet 𝓣 g f (takes 𝓣 M Q z) (takes 𝓣 M P z)
      (λ q e. let i = half Q P x X tX f g z ex least (sym here) (λ z1 z2 t h k. sym (frontP z1 z2 t h k)) q e in (i.0, i.1, sym i.2))
      (λ p e. half P Q x X tX g f z ex least here frontQ p e)

  -- Behind the common front: m is what is left of A, f the tally of B, X and Y the sums.
  module _ (A B : ℕ) (m : Weighted T) (x y : Word) (b : Input) (X Y f : T) (goes : ran 𝓣 M (A ∷ []) b ≡ Some m) (took : takes 𝓣 M (B ∷ []) b ≡ Some f) where
    -- A x and B y do not differ on c, nor on c with b in place of what B takes
    abbrev pub Tried : Input → Type 0
    Tried c = AlikeOn 𝓣 M X Y (A ∷ x) (B ∷ y) c × ((c1 c2 : Input) (t : T) → c ≡ c1 ++ c2 → takes 𝓣 M (B ∷ []) c1 ≡ Some t → AlikeOn 𝓣 M X Y (A ∷ x) (B ∷ y) (b ++ c2))

    -- behind b
    after : (c : Input) → AlikeOn 𝓣 M X Y (A ∷ x) (B ∷ y) (b ++ c) → shift 𝓣 X (shift 𝓣 m.tally (takes 𝓣 M (m.word ++ x) c)) ≡ shift 𝓣 Y (shift 𝓣 f (takes 𝓣 M y c))
    after c e = ap (shift 𝓣 X) (sym (run_on 𝓣 M b (A ∷ []) x c m goes)) ∙ e ∙ ap (shift 𝓣 Y) (compose 𝓣 M b (B ∷ []) y c f took)

    there : (c : Input) → Tried c → (t : T) → takes 𝓣 M (A ∷ x) c ≡ Some t → (w : T) × (takes 𝓣 M (B ∷ (m.word ++ x)) c ≡ Some w) × (𝓣.add m.tally w ≡ 𝓣.add f t)
    there c h t e =
        let k = beside 𝓣 X Y t (takes 𝓣 M (A ∷ x) c) (takes 𝓣 M (B ∷ y) c) e h.0 in
        let i = split 𝓣 M c (B ∷ []) y k.0 k.1 in
        let j = after i.back (h.1 i.front i.back i.first i.joined i.takes_front) in
        let d = shift_some 𝓣 f i.second (takes 𝓣 M y i.back) i.takes_back in
        let l = beside 𝓣 Y X (𝓣.add f i.second) (shift 𝓣 f (takes 𝓣 M y i.back)) (shift 𝓣 m.tally (takes 𝓣 M (m.word ++ x) i.back)) d (sym j) in
        let n = shifted 𝓣 m.tally (takes 𝓣 M (m.word ++ x) i.back) l.0 l.1 in (
          𝓣.add i.first n.0,
          taken_both 𝓣 M (B ∷ []) (m.word ++ x) c i.front i.back i.first n.0 i.joined i.takes_front n.1,
          crossed_there 𝓣 X Y t k.0 i.first i.second m.tally n.0 l.0 f k.2 i.adds_up n.2 l.2,
        )

    back : (c : Input) → Tried c → (w : T) → takes 𝓣 M (B ∷ (m.word ++ x)) c ≡ Some w → (t : T) × (takes 𝓣 M (A ∷ x) c ≡ Some t) × (𝓣.add m.tally w ≡ 𝓣.add f t)
    back c h w e =
        let i = split 𝓣 M c (B ∷ []) (m.word ++ x) w e in
        let j = after i.back (h.1 i.front i.back i.first i.joined i.takes_front) in
        let d = shift_some 𝓣 m.tally i.second (takes 𝓣 M (m.word ++ x) i.back) i.takes_back in
        let l = beside 𝓣 X Y (𝓣.add m.tally i.second) (shift 𝓣 m.tally (takes 𝓣 M (m.word ++ x) i.back)) (shift 𝓣 f (takes 𝓣 M y i.back)) d j in
        let n = shifted 𝓣 f (takes 𝓣 M y i.back) l.0 l.1 in
        let o = taken_both 𝓣 M (B ∷ []) y c i.front i.back i.first n.0 i.joined i.takes_front n.1 in
        let k = beside 𝓣 Y X (𝓣.add i.first n.0) (takes 𝓣 M (B ∷ y) c) (takes 𝓣 M (A ∷ x) c) o (sym h.0) in
        (k.0, k.1, crossed_back 𝓣 X Y k.0 w i.first n.0 m.tally i.second l.0 f k.2 i.adds_up n.2 l.2)

    -- A x is B, what is left and x there
    pub replaced : (c : Input) → Tried c → AlikeOn 𝓣 M m.tally f (B ∷ (m.word ++ x)) (A ∷ x) c
    replaced c h = meet 𝓣 m.tally f (takes 𝓣 M (A ∷ x) c) (takes 𝓣 M (B ∷ (m.word ++ x)) c) (there c h) (back c h)

    -- A is B and what is left on z, up to the two tallies
    pub apart : (Z : Input) (tZ : T) (z : Input) → takes 𝓣 M x Z ≡ Some tZ → ((s : Input) (t : T) → takes 𝓣 M x s ≡ Some t → length Z ≤ length s) →
        Tried (z ++ Z) →
        ((z1 z2 : Input) (t : T) → z ≡ z1 ++ z2 → takes 𝓣 M (B ∷ m.word) z1 ≡ Some t → Tried (z1 ++ Z)) →
        ((z1 z2 : Input) (t : T) → z ≡ z1 ++ z2 → takes 𝓣 M (A ∷ []) z1 ≡ Some t → Tried (z1 ++ Z)) →
        AlikeOn 𝓣 M m.tally f (B ∷ m.word) (A ∷ []) z
    apart Z tZ z ez least here frontW frontA =
        right_cancel (B ∷ m.word) (A ∷ []) x Z tZ m.tally f z ez least (replaced (z ++ Z) here)
        (λ z1 z2 t h k. replaced (z1 ++ Z) (frontW z1 z2 t h k))
        (λ z1 z2 t h k. replaced (z1 ++ Z) (frontA z1 z2 t h k))
