-- From what a stage and a direct line answer to what the calls answer.
use Rattle.std.proofs.Common.{◌≡◌, ℕ, ◌<◌, ◌≤◌, true, false, eqb, ◌⊎◌, [], length, get_or, Some, None, Ok, Err, Result, sym, refl, ap, ◌∙◌, subst, inl, inr, arith}
use Rattle.refusal.specs.declared.kinds.Refusal.{Refusal}
use Rattle.refusal.specs.declared.kinds.Refusal.TheVariants.{Size, SampleScale, TwiddleScale, Block, Narrow, Moment, Place, Strange, Malformed, Short, Large, Mask, Modulus, Garbled, Long}
use Rattle.plan.specs.declared.method.Method.{Method}
use Rattle.plan.specs.declared.method.Method.TheVariants.{Direct, Radix2, Radix4}
use Rattle.plan.specs.declared.plan.Plan.{Plan}
use Rattle.scheme.specs.Meaning.{Meaning, Sound}
use Rattle.scheme.specs.Hidden.{StandsPair, WellFormed}
use Rattle.scheme.proofs.Standing.{pair_itself}
use Rattle.stages.specs.Block.{is_well_formed_at, read_at}
use Rattle.scheme.specs.Hidden.{well_formed}
use Rattle.stages.specs.Stage.{StageAnswer, StageRefused}
use Rattle.stages.specs.Direct.{DirectAnswer, DirectRefused}
use Rattle.stages.proofs.Blocks.{sound_there, read_there, both_true}
use Rattle.states.specs.declared.Kept.{Kept}
use Rattle.states.specs.Step.{Pairs, first_malformed_place, malformed, unless, stages_for, line_malformed, line_read}
use Rattle.window.specs.Parts.{Advancing, Reading}
use Rattle.window.proofs.Searching.{found_first}

module _ {N : Type 0} (m : Meaning N) where
  -- a declined stage, on a long enough block and a stage that is due, is a malformed pair
  stage_declined : (kept : Kept) (t : ℕ) (bl : Pairs N) (x : Refusal) → kept.plan.size ≤ length bl → t < stages_for kept.plan → StageRefused m kept.plan t bl x → malformed (first_malformed_place m bl kept.plan.size) ≡ Some x
  stage_declined kept t bl (Malformed i) l d h = ap malformed (found_first m bl kept.plan.size (Some i) h.2)
  stage_declined kept t bl Block l d h = absurd (omega arith)
  stage_declined kept t bl Moment l d h = absurd (omega (arith, h.1))
  stage_declined kept t bl Size l d h = absurd h
  stage_declined kept t bl SampleScale l d h = absurd h
  stage_declined kept t bl TwiddleScale l d h = absurd h
  stage_declined kept t bl Narrow l d h = absurd h
  stage_declined kept t bl Place l d h = absurd h
  stage_declined kept t bl Strange l d h = absurd h
  stage_declined kept t bl Short l d h = absurd h
  stage_declined kept t bl Large l d h = absurd h
  stage_declined kept t bl Mask l d h = absurd h
  stage_declined kept t bl Modulus l d h = absurd h
  stage_declined kept t bl Garbled l d h = absurd h
  stage_declined kept t bl Long l d h = absurd h

  pub advancing : (kept : Kept) (t : ℕ) (before after : Pairs N) (r : Result (Unit {0}) Refusal) → kept.plan.size ≤ length before → t < stages_for kept.plan → eqb m.modulus kept.modulus ≡ true → StageAnswer m kept.plan t before after r → Advancing m kept t before after r
  advancing kept t before after (Ok u) l d e h = (
    rw e (ap malformed (found_first m before kept.plan.size None h.formed)),
    record { staged = h.mixed; formed = h.sound; past = h.kept; long = h.length },
  )
  advancing kept t before after (Err x) l d e h = (rw e (stage_declined kept t before x l d h.1), h.0)

  -- a declined direct line, on a long enough block and at a place below the size, is a malformed pair
  direct_declined : (p : Plan) (k : ℕ) (bl : Pairs N) (x : Refusal) → p.size ≤ length bl → k < p.size → DirectRefused m p k bl x → malformed (first_malformed_place m bl p.size) ≡ Some x
  direct_declined p k bl (Malformed i) l d h = ap malformed (found_first m bl p.size (Some i) h.2)
  direct_declined p k bl Block l d h = absurd (omega arith)
  direct_declined p k bl Place l d h = absurd (omega (arith, h.1))
  direct_declined p k bl Size l d h = absurd h
  direct_declined p k bl SampleScale l d h = absurd h
  direct_declined p k bl TwiddleScale l d h = absurd h
  direct_declined p k bl Narrow l d h = absurd h
  direct_declined p k bl Moment l d h = absurd h
  direct_declined p k bl Strange l d h = absurd h
  direct_declined p k bl Short l d h = absurd h
  direct_declined p k bl Large l d h = absurd h
  direct_declined p k bl Mask l d h = absurd h
  direct_declined p k bl Modulus l d h = absurd h
  direct_declined p k bl Garbled l d h = absurd h
  direct_declined p k bl Long l d h = absurd h

  pub reading_direct : (p : Plan) (k : ℕ) (bl : Pairs N) (r : Result (N × N) Refusal) → p.method ≡ Direct → p.size ≤ length bl → k < p.size → DirectAnswer m p k bl r → Reading m p k bl r
  reading_direct p k bl (Ok x) e l d h =
      let P : Method → Type 0 = λ w. (line_malformed m w bl p.size k ≡ None) × StandsPair m [] (line_read m p w bl k) x in
      subst P (sym e) (ap malformed (found_first m bl p.size None h.formed), h.read [])
  reading_direct p k bl (Err x) e l d h =
      let P : Method → Type 0 = λ w. line_malformed m w bl p.size k ≡ Some x in
      subst P (sym e) (direct_declined p k bl x l d h)

  -- a well-formed pair at place k, read as a radix line
  pub reading_there : Sound m → (p : Plan) (k : ℕ) (bl : Pairs N) (w : Method) (x : N × N) → (w ≡ Radix2) ⊎ (w ≡ Radix4) → k < length bl → x ≡ get_or bl k x → well_formed m x ≡ true → (line_malformed m w bl p.size k ≡ None) × StandsPair m [] (line_read m p w bl k) x
  reading_there s p k bl w x way l h t =
      let P : Method → Type 0 = λ w. (line_malformed m w bl p.size k ≡ None) × StandsPair m [] (line_read m p w bl k) x in
      let a : is_well_formed_at m bl k ≡ true = sound_there m bl k x l h ∙ t in
      let f : WellFormed m x = record { re = (both_true (m.wf x.0) (m.wf x.1) t).0; im = (both_true (m.wf x.0) (m.wf x.1) t).1 } in
      let z : StandsPair m [] (read_at m [] bl k) x = rw (read_there m [] bl k x l h) (pair_itself m s [] x f) in
      let u : unless (is_well_formed_at m bl k) (Malformed k) None ≡ None = rw a refl in
      elim way [ inl e ↦ subst P (sym e) (u, z) | inr e ↦ subst P (sym e) (u, z) ]

  pub reading_malformed : (p : Plan) (k : ℕ) (bl : Pairs N) (w : Method) (x : N × N) → (w ≡ Radix2) ⊎ (w ≡ Radix4) → k < length bl → x ≡ get_or bl k x → well_formed m x ≡ false → line_malformed m w bl p.size k ≡ Some (Malformed k)
  reading_malformed p k bl w x way l h t =
      let P : Method → Type 0 = λ w. line_malformed m w bl p.size k ≡ Some (Malformed k) in
      let a : is_well_formed_at m bl k ≡ false = sound_there m bl k x l h ∙ t in
      let u : unless (is_well_formed_at m bl k) (Malformed k) None ≡ Some (Malformed k) = rw a refl in
      elim way [ inl e ↦ subst P (sym e) u | inr e ↦ subst P (sym e) u ]
