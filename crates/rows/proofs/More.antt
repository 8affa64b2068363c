-- More rows: what agreed agrees, and what was proved is proved.
--
-- The idea: with more rows a normal form is only continued, and alike for two words with one normal form.
--
-- Assumes nothing.
use Rattle.std.proofs.Common.{◌≡◌, [], ◌∷◌, Some, None, Option, sym, ap, ◌∙◌}
use Rattle.tally.specs.Group.{Group}
use Rattle.grammar.specs.Meaning.{Word, Weighted}
use Rattle.rows.specs.Sheets.{Sheet, Normal, normal_nil, normal_keep, normal_put, Joined, Meets, Extends}
use Rattle.rows.specs.Laws.{Total}
use Rattle.rows.proofs.Normals.{to, by, normal_once, normal_append}
use Rattle.rows.proofs.Sound.{left_comm}

module _ {T : Type 0} (𝓣 : Group T) (D E : Sheet T) (more : Extends D E) (total : Total 𝓣 E) where
  -- full in D, and then in E
  pub normal_more : {x z y : Word} {s t : T} → Normal 𝓣 D x z s → Normal 𝓣 E z y t → Normal 𝓣 E x y (𝓣.add s t)
  normal_more normal_nil h = rw 𝓣.left h
  normal_more {t = t} (normal_keep {A = A} {r = r} {z = z} {s = s} e f) h =
      let here = total (A ∷ []) in
      let rest = total z in
      let same = normal_once 𝓣 E h (normal_append 𝓣 E here.2 rest.2) in
      let all = normal_append 𝓣 E here.2 (normal_more f rest.2) in
      let sums : 𝓣.add here.1 (𝓣.add s rest.1) ≡ 𝓣.add s t = rw same.1 (left_comm 𝓣 here.1 s rest.1) in
      by 𝓣 E sums (to 𝓣 E (sym same.0) all)
  normal_more {t = t} (normal_put {A = A} {s = s} {m = m} e f) h =
      by 𝓣 E (sym (𝓣.assoc m.tally s t)) (normal_put (more A m e) (normal_more f h))

  -- two words that are full alike in D are so in E
  pub alike_more : (x y z : Word) (s t : T) → Normal 𝓣 D x z s → Normal 𝓣 D y z t →
      (v : Word) × (u : T) × Normal 𝓣 E x v (𝓣.add s u) × Normal 𝓣 E y v (𝓣.add t u)
  alike_more x y z s t f h = let n = total z in (n.0, n.1, normal_more f n.2, normal_more h n.2)

  joined_more : (s : T) (p q : Weighted T) → Joined 𝓣 D s p q → Joined 𝓣 E s p q
  joined_more s p q j =
      let n = total j.word in
      record {
        word = n.0;
        one = 𝓣.add j.one n.1;
        two = 𝓣.add j.two n.1;
        normal_one = normal_more j.normal_one n.2;
        normal_two = normal_more j.normal_two n.2;
        even = sym (𝓣.assoc p.tally j.one n.1) ∙ ap (λ u. 𝓣.add u n.1) j.even ∙ 𝓣.assoc (𝓣.add s q.tally) j.two n.1;
      }

  pub meets_more : (s : T) (p q : Option (Weighted T)) → Meets 𝓣 D s p q → Meets 𝓣 E s p q
  meets_more s None None h = tt
  meets_more s None (Some q) h = absurd h
  meets_more s (Some p) None h = absurd h
  meets_more s (Some p) (Some q) h = joined_more s p q h
