-- Where a call is possible over a block, the call with a second sample is possible over an alike block, and leads to the same state.
use Rattle.std.proofs.Common.{◌≡◌, ℕ, ◌<◌, Bool, true, eqb, List, [], ◌∷◌, set, Some, None, Ok, Err, Option, Result, sym, refl, ◌∙◌, subst}
use Rattle.integers.specs.declared.Complex.{Complex}
use Rattle.integers.specs.Modulus.{is_modulus}
use Rattle.refusal.specs.declared.kinds.Refusal.{Refusal}
use Rattle.refusal.specs.declared.kinds.Refusal.TheVariants.{Strange}
use Rattle.lines.specs.Places.{place_of}
use Rattle.split.specs.declared.halves.Halves.{Halves}
use Rattle.states.specs.declared.Kept.{Kept}
use Rattle.states.specs.declared.State.{State}
use Rattle.states.specs.declared.State.TheVariants.{Idle, Filling, Running, Finished}
use Rattle.states.specs.declared.Call.{Call}
use Rattle.states.specs.declared.Call.TheVariants.{Plan as PlanCall, Load, Begin, Advance, Line as LineCall, Restart}
use Rattle.states.specs.declared.Line.{Line}
use Rattle.states.specs.Step.{Pairs, Step, StepBy, Accepted, Advanced, declined, malformed, first_malformed_place, stages_for, stated, line_read}
use Rattle.states.specs.History.{Numbers, plan_after}
use Rattle.secrecy.specs.Secrecy.{After, answers_of, Run, SecondSamples, hidden_pairs, bringing, replaced}
use Rattle.secrecy.specs.Masks.{masks}
use Rattle.secrecy.proofs.Blocks.{Pair, shares, Alike, alike_malformed}
use Rattle.states.proofs.Declining.{unless_none, malformed_none}
use Rattle.secrecy.proofs.Steps.{Tied, tied_step, AlikeLoad, declined_same, step_same}
use Rattle.secrecy.proofs.Masks.{split_sound, positive}
use Rattle.secrecy.proofs.Making.{after, stage_made}
use Rattle.secrecy.proofs.Runs.{next}

-- the call is accepted over the block, and comes to the state
record Accepts (n : ℕ) (st : State) (ys : Pairs (Halves ℕ)) (c : Call (Halves ℕ)) (st' : State) : Type 0 where
  answer : Result (Option Line) Refusal
  block : Pairs (Halves ℕ)
  accepted : Accepted (shares n) st ys c answer st' block

-- the call is possible over the block, and comes to the state
pub record Follows (n : ℕ) (st : State) (ys : Pairs (Halves ℕ)) (c : Call (Halves ℕ)) (st' : State) : Type 0 where
  pub answer : Result (Option Line) Refusal
  pub block : Pairs (Halves ℕ)
  pub step : Step (shares n) st ys c answer st' block

module _ (n : ℕ) (modulus : is_modulus n ≡ true) (h : Bool) (p : Option Numbers) (xs ys : Pairs (Halves ℕ)) (alike : Alike n h xs ys) (a : Result (Option Line) Refusal) (st' : State) (xs' : Pairs (Halves ℕ)) where
  advances : (kept : Kept) (t : ℕ) → t < stages_for kept.plan → first_malformed_place (shares n) xs kept.plan.size ≡ None → Advanced (shares n) kept t xs a st' xs' → Accepts n (Running kept t) ys Advance st'
  advances kept t due clean s =
      let clean' : first_malformed_place (shares n) ys kept.plan.size ≡ None = sym (alike_malformed n h xs ys alike kept.plan.size) ∙ clean in
      record {
        answer = Ok None;
        block = after n (positive n modulus) kept.plan t due ys clean';
        accepted = record { stage = stage_made n (positive n modulus) kept.plan t due ys clean'; becomes = record { answer = refl; after = s.becomes.after; holds = refl } };
      }

  accepts : (c : Call (Halves ℕ)) (y : Pair) (st : State) → Tied n p st → declined (shares n) st xs c ≡ None → Accepted (shares n) st xs c a st' xs' → Accepts n st ys (bringing y c) st'
  accepts (PlanCall k size q1 q2) y st t d s =
      record { answer = Ok None; block = ys; accepted = record { plan = s.plan; has = s.has; becomes = record { answer = refl; after = s.becomes.after; holds = refl } } }
  accepts (Load i x) y Idle t d s = absurd s
  accepts (Load i x) y (Filling kept count) t d s =
      record { answer = Ok None; block = set ys (place_of kept.plan.method kept.plan.size i) y; accepted = record { answer = refl; after = s.after; holds = refl } }
  accepts (Load i x) y (Running kept j) t d s = absurd s
  accepts (Load i x) y (Finished kept) t d s = absurd s
  accepts Begin y Idle t d s = absurd s
  accepts Begin y (Filling kept count) t d s = record { answer = Ok None; block = ys; accepted = record { answer = refl; after = s.after; holds = refl } }
  accepts Begin y (Running kept j) t d s = absurd s
  accepts Begin y (Finished kept) t d s = absurd s
  accepts Advance y Idle t d s = absurd s
  accepts Advance y (Filling kept count) t d s = absurd s
  accepts Advance y (Running kept j) t d s =
      advances kept j t.1
      (malformed_none (first_malformed_place (shares n) xs kept.plan.size) (unless_none (eqb n kept.modulus) Strange (malformed (first_malformed_place (shares n) xs kept.plan.size)) d).1) s
  accepts Advance y (Finished kept) t d s = absurd s
  accepts (LineCall k) y Idle t d s = absurd s
  accepts (LineCall k) y (Filling kept count) t d s = absurd s
  accepts (LineCall k) y (Running kept j) t d s = absurd s
  accepts (LineCall k) y (Finished kept) t d s =
      record { answer = Ok (Some (stated (shares n) kept.plan k (line_read (shares n) kept.plan kept.plan.method ys k))); block = ys; accepted = record { answer = refl; after = s.after; holds = refl } }
  accepts Restart y Idle t d s = absurd s
  accepts Restart y (Filling kept count) t d s = record { answer = Ok None; block = ys; accepted = record { answer = refl; after = s.after; holds = refl } }
  accepts Restart y (Running kept j) t d s = record { answer = Ok None; block = ys; accepted = record { answer = refl; after = s.after; holds = refl } }
  accepts Restart y (Finished kept) t d s = record { answer = Ok None; block = ys; accepted = record { answer = refl; after = s.after; holds = refl } }

  pub follows : (c : Call (Halves ℕ)) (y : Pair) (st : State) → Tied n p st → AlikeLoad n h c y → Step (shares n) st xs c a st' xs' → Follows n st ys (bringing y c) st'
  follows c y st t e s = go (declined (shares n) st xs c) refl s
    where
      go : (o : Option Refusal) → declined (shares n) st xs c ≡ o → StepBy o (shares n) st xs c a st' xs' → Follows n st ys (bringing y c) st'
      go None d s =
          let f = accepts c y st t d s in
          record {
            answer = f.answer;
            block = f.block;
            step = subst (λ (o : Option Refusal). StepBy o (shares n) st ys (bringing y c) f.answer st' f.block) (sym d ∙ declined_same n h xs ys alike c y st e) f.accepted;
          }
      go (Some x) d s =
          record {
            answer = Err x;
            block = ys;
            step = subst (λ (o : Option Refusal). StepBy o (shares n) st ys (bringing y c) (Err x) st' ys) (sym d ∙ declined_same n h xs ys alike c y st e) (record { answer = refl; after = s.after; holds = refl });
          }

-- the list with the second samples runs, over any alike block
pub runs_exist_lem : (n : ℕ) (modulus : is_modulus n ≡ true) (h : Bool) (cs : List (Call (Halves ℕ))) (ts : List (After (Halves ℕ))) (p : Option Numbers) (st : State) (xs ys : Pairs (Halves ℕ)) (zs : List Complex) → Tied n p st → Alike n h xs ys → Run (shares n) st xs cs ts → SecondSamples p cs (answers_of ts) zs → (us : List (After (Halves ℕ))) × Run (shares n) st ys (replaced cs (answers_of ts) (hidden_pairs n zs (masks n h cs (answers_of ts) zs))) us
runs_exist_lem n modulus h [] [] p st xs ys zs t e k s = ([], tt)
runs_exist_lem n modulus h [] (u ∷ ts) p st xs ys zs t e k s = absurd k
runs_exist_lem n modulus h (c ∷ cs) [] p st xs ys zs t e k s = absurd k
runs_exist_lem n modulus h (c ∷ cs) (u ∷ ts) p st xs ys zs t e k s =
    let f = next n modulus h p cs (answers_of ts) c u.answer zs st xs k.0 u.block t k.1 s in
    let g = follows n modulus h p xs ys e u.answer k.0 u.block c f.pair st t f.alike k.1 in
    let same = step_same n (split_sound n modulus) h p xs ys e u.answer g.answer k.0 k.0 u.block g.block c f.pair st t f.alike k.1 g.step in
    let more = runs_exist_lem n modulus h cs ts (plan_after u.answer c p) k.0 u.block g.block f.later (tied_step n p c st xs u.answer k.0 u.block t k.1) same.blocks k.2 f.samples in (
      record { answer = g.answer; block = g.block } ∷ more.0,
      subst (λ (ds : List (Call (Halves ℕ))). Run (shares n) st ys ds (record { answer = g.answer; block = g.block } ∷ more.0)) (sym f.calls) (k.0, g.step, more.1),
    )
