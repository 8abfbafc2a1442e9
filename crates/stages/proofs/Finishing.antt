-- A finished stage.
use Rattle.std.proofs.Common.{◌≡◌, ℕ, suc, ◌+◌, ◌-◌, ◌*◌, ◌/◌, ◌%◌, ◌^◌, ◌<◌, ◌≤◌, true, List, [], ◌∷◌, length, get_or, Some, None, Err, Option, Result, sym, refl, ap, ◌∙◌, subst, mod-lt, div-lt_iff_lt-mul, div-add-mod', arith}
use native.Mathlib.Nat.{pow-succ', one-le-pow}
use lib.Arith.{digits_lt}
use Rattle.integers.specs.declared.Complex.{Complex}
use Rattle.plan.specs.declared.plan.Plan.{Plan}
use Rattle.plan.specs.Methods.{base}
use Rattle.scheme.specs.Meaning.{Meaning, Sound, View}
use Rattle.scheme.specs.Hidden.{StandsPair}
use Rattle.scheme.proofs.Standing.{pair_itself}
use Rattle.lines.specs.Lines.{mix}
use Rattle.lines.specs.Places.{Staged, Standing, place}
use Rattle.lines.proofs.Places.{stage_made}
use Rattle.stages.specs.Block.{is_well_formed_at, read_at, StandsAt}
use Rattle.scheme.specs.Hidden.{well_formed}
use Rattle.stages.specs.Search.{Found, Tested}
use Rattle.std.specs.Option.{ok_or}
use Rattle.refusal.specs.declared.kinds.Refusal.{Refusal}
use Rattle.refusal.specs.declared.kinds.Refusal.TheVariants.{Moment}
use Rattle.stages.specs.Stage.{entries, Making, StageAnswer, StageRefused, PowerBelow, stages_in, Stage}
use Rattle.stages.proofs.Blocks.{entry_itself, both, both_true, sound_there, read_there}
use Rattle.stages.proofs.Making.{place_inside}
use Rattle.stages.proofs.Shapes.{Shape, unshaped, staging_of, base_two, powered, power_splits, groups_are}

module _ {Number : Type 0} (m : Meaning Number) (lawful : Sound m) where
  -- a well-formed pair stands for what is read in it
  pub stands_read : (v : View) (xs : List (Number × Number)) (i : ℕ) (d : Number × Number) → i < length xs → is_well_formed_at m xs i ≡ true → StandsPair m v (read_at m v xs i) (get_or xs i d)
  stands_read v xs i d within ok =
      let p = get_or xs i d in
      let e : p ≡ get_or xs i p = entry_itself xs i d within in
      let w : well_formed m p ≡ true = sym (sound_there m xs i p within e) ∙ ok in
      let b = both_true (m.wf p.0) (m.wf p.1) w in
      subst (λ z. StandsPair m v z p) (sym (read_there m v xs i p within e)) (pair_itself m lawful v p (record { re = b.0; im = b.1 }))

  -- a place whose pair stands for something is well formed
  pub stands_sound : (v : View) (z : Complex) (xs : List (Number × Number)) (i : ℕ) (d : Number × Number) → StandsAt m v z xs i → is_well_formed_at m xs i ≡ true
  stands_sound v z xs i d h =
      let p = get_or xs i d in
      let s = h.pair d in
      sound_there m xs i p h.within (entry_itself xs i d h.within) ∙ both s.re.wf s.im.wf

  some_entry : (xs : List (Number × Number)) (i : ℕ) → i < length xs → Number × Number
  some_entry [] i h = absurd (omega arith)
  some_entry (x ∷ xs) i h = x

  module _ (q r t groups : ℕ) (before after : List (Number × Number)) (one : 1 < r) (long : groups * r ^ suc t ≤ length before) (same : length after ≡ length before) (formed : (k : ℕ) → k < groups * r ^ suc t → is_well_formed_at m before k ≡ true) (making : Making m q r t groups (groups * r ^ t) before after) where
    pub read_mixed : (v : View) (g k l : ℕ) → g < groups → k < r ^ t → l < r → StandsAt m v (mix q r t k (λ i. read_at m v before (place r t g k i)) l) after (place r t g k l)
    read_mixed v g k l hg hk hl =
        record {
          within = let h = place_inside r t groups g k l hg hk hl in omega arith;
          pair =
              λ d.
              making.done v d g k hg hk (digits_lt hg hk) (λ i. read_at m v before (place r t g k i))
              (λ i hi. let h = place_inside r t groups g k i hg hk hi in stands_read v before (place r t g k i) d (omega arith) (formed (place r t g k i) h))
              l hl;
        }

    -- every place belongs to a butterfly
    pub sound_after : (i : ℕ) → i < groups * r ^ suc t → is_well_formed_at m after i ≡ true
    unfolding place
    sound_after i h =
        let some : 0 < r ^ t = one-le-pow t r (omega arith) in
        let more : 0 < r ^ suc t = one-le-pow (suc t) r (omega arith) in
        let g = i / r ^ suc t in
        let j = i % r ^ suc t in
        let k = j % r ^ t in
        let l = j / r ^ t in
        let hg : g < groups = (div-lt_iff_lt-mul more).1 h in
        let hj : j < r ^ suc t = mod-lt i more in
        let hk : k < r ^ t = mod-lt j some in
        let hl : l < r = (div-lt_iff_lt-mul some).1 (subst (λ x. j < x) (pow-succ' r t) hj) in
        let ej : l * r ^ t + k ≡ j = div-add-mod' j (r ^ t) in
        let e : place r t g k l ≡ i = ap (λ x. g * r ^ suc t + x) ej ∙ div-add-mod' i (r ^ suc t) in
        let d = some_entry before i (omega arith) in
        let z = mix q r t k (λ n. read_at m [] before (place r t g k n)) l in
        subst (λ x. is_well_formed_at m after x ≡ true) e (stands_sound [] z after (place r t g k l) d (read_mixed [] g k l hg hk hl))

  pub finished : (p : Plan) (t radix span groups q : ℕ) (before after : List (Number × Number)) → q ≡ p.twiddle_scale → p.size ≤ length before → Shape p t radix span → Found m before p.size None → groups ≡ p.size / (radix * span) → ((n : ℕ) → span ≡ radix ^ n → Making m q radix n groups (groups * span) before after) → length after ≡ length before → Stage m p t before after
  finished p t radix span groups q before after eq long shape formed eg making same =
      record {
        long = long;
        moment = shape.moment;
        formed = formed;
        mixed = mixed;
        read = λ v g k l hg hk hl. subst (λ c. StandsAt m v (mix c r t k (λ i. read_at m v before (place r t g k i)) l) after (place r t g k l)) eq (read_mixed q r t (r ^ u) before after (base_two p.method) long' same formed' made v g k l hg hk hl);
        lines = λ v d s h. stage_made (StandsPair m v) p.twiddle_scale r t u s (entries d before) (entries d after) (omega (arith, base_two p.method)) (subst (λ n. Standing (StandsPair m v) p.twiddle_scale r t n s (entries d before)) left h) (mixed v d);
        sound = λ k h. sound_after q r t (r ^ u) before after (base_two p.method) long' same formed' made k (omega (arith, size-as));
        kept = λ d i h. made.past d i (omega (arith, size-as));
        length = same;
      }
    where
      r : ℕ
      r = base p.method

      u : ℕ
      u = stages_in p - suc t

      size_is : p.size ≡ r ^ stages_in p
      size_is = powered p.method (staging_of p.method p.size t shape.moment) p.size p.size_lawful

      size-as : p.size ≡ r ^ u * r ^ suc t
      size-as = size_is ∙ power_splits r t (stages_in p) shape.moment ∙ ap (λ x. r ^ u * x) (sym (pow-succ' r t))

      left : stages_in p - t ≡ suc u
      left = omega (arith, shape.moment)

      groups-is : groups ≡ r ^ u
      groups-is = eg ∙ ap (λ x. p.size / (x * span)) shape.radix ∙ groups_are r t (stages_in p) p.size span (base_two p.method) shape.moment size_is shape.power

      made : Making m q r t (r ^ u) (r ^ u * r ^ t) before after
      made =
          subst (λ x. Making m q r t (r ^ u) (r ^ u * x) before after) shape.power
          (subst (λ x. Making m q r t x (x * span) before after) groups-is
          (subst (λ x. Making m q x t groups (groups * span) before after) shape.radix (making t (shape.power ∙ ap (λ x. x ^ t) (sym shape.radix)))))

      long' : r ^ u * r ^ suc t ≤ length before
      long' = omega (arith, size-as)

      formed' : (k : ℕ) → k < r ^ u * r ^ suc t → is_well_formed_at m before k ≡ true
      formed' k h = formed k (omega (arith, size-as))

      mixed : (v : View) (d : Number × Number) → Staged (StandsPair m v) p.twiddle_scale r t u (entries d before) (entries d after)
      mixed v d = subst (λ c. Staged (StandsPair m v) c r t u (entries d before) (entries d after)) eq (λ g k hg hk. made.done v d g k hg hk (digits_lt hg hk))

-- ---- refusals, with the block as it was

module _ {Number : Type 0} (m : Meaning Number) (p : Plan) (t : ℕ) (xs : List (Number × Number)) where
  pub refused : (x : Result (Unit {0}) Refusal) (e y : Refusal) → x ≡ Err y → e ≡ y → StageRefused m p t xs e → StageAnswer m p t xs xs x
  refused x e y h same why = subst (λ o. StageAnswer m p t xs xs o) (sym h) (refl, subst (λ o. StageRefused m p t xs o) same why)

  -- no power of the radix below the size: no such stage
  pub no_moment : (r : ℕ) (o : Option ℕ) (e : Refusal) → r ≡ base p.method → p.size ≡ r ^ stages_in p → p.size ≤ length xs → PowerBelow r t p.size o → ok_or o Moment ≡ Err e → StageRefused m p t xs e
  no_moment r None e rb z long more is = let same : Moment ≡ e = cc in subst (λ o. StageRefused m p t xs o) same (long, unshaped p t r rb z more)
  no_moment r (Some x) e rb z long more is = cc

  pub not_formed : (e : Refusal) → p.size ≤ length xs → t < stages_in p → Tested m xs p.size (Err e) → StageRefused m p t xs e
  not_formed e long moment (i, is, found) = subst (λ o. StageRefused m p t xs o) (sym is) (long, moment, found)
