-- Whole lists of calls: the calls with the second samples, one by one.
use Rattle.std.proofs.Common.{◌≡◌, ℕ, suc, ◌<◌, ◌≤◌, Bool, true, false, ◌&&◌, eqb, ltb, leb, List, [], ◌∷◌, length, None, Ok, Err, Option, Result, sym, refl, ap, subst}
use Rattle.integers.specs.declared.Complex.{Complex}
use Rattle.integers.specs.Modulus.{is_modulus}
use Rattle.integers.specs.Residue.{half as bound}
use Rattle.refusal.specs.declared.kinds.Refusal.{Refusal}
use Rattle.refusal.specs.declared.kinds.Refusal.TheVariants.{Moment, Place, Strange, Malformed}
use Rattle.lines.specs.Laws.{Within}
use Rattle.split.specs.declared.halves.Halves.{Halves}
use Rattle.scheme.specs.Hidden.{well_formed}
use Rattle.states.specs.declared.Kept.{Kept}
use Rattle.states.specs.declared.State.{State}
use Rattle.states.specs.declared.State.TheVariants.{Idle, Filling, Running, Finished}
use Rattle.states.specs.declared.Call.{Call}
use Rattle.states.specs.declared.Call.TheVariants.{Plan as PlanCall, Load, Begin, Advance, Line as LineCall, Restart}
use Rattle.states.specs.declared.Line.{Line}
use Rattle.states.specs.Step.{Pairs, Step, StepBy, Declined, unless}
use Rattle.states.specs.History.{Numbers, plan_after}
use Rattle.secrecy.specs.Secrecy.{After, Answers, answers_of, Run, loaded, InScale, SecondSamples, hidden_pair, hidden_pairs, bringing, replaced, SealedUnder, AllSealed, WordsBelow, AllSame}
use Rattle.secrecy.specs.Masks.{words, masks}
use Rattle.secrecy.proofs.Blocks.{Pair, shares, Alike, alike_held}
use Rattle.secrecy.proofs.Stages.{and_first, and_second}
use Rattle.secrecy.proofs.Steps.{InForce, Tied, tied_step, AlikeLoad, step_same}
use Rattle.secrecy.proofs.Masks.{split_sound, word_below, words_known, sealed_as, scale_sealed}

-- ---- an accepted load

-- what an accepted load tells: its pair is well formed, and a plan that fits the modulus is in force
pub record Taken (n : ℕ) (p : Option Numbers) (x : Pair) : Type 0 where
  pub formed : well_formed (shares n) x ≡ true
  pub kept : Kept
  pub force : InForce n p kept

accepted_never : (x : Refusal) (st : State) (bl : Pairs (Halves ℕ)) (r : Option Line) (st' : State) (bl' : Pairs (Halves ℕ)) → Declined x st bl (Ok r) st' bl' → ⊥
accepted_never x st bl r st' bl' s = let e = s.answer in cc

taken_formed : (n i : ℕ) (st : State) (bl : Pairs (Halves ℕ)) (c : Call (Halves ℕ)) (r : Option Line) (st' : State) (bl' : Pairs (Halves ℕ)) (a b f : Bool) → StepBy (unless a Place (unless b Strange (unless f (Malformed i) None))) (shares n) st bl c (Ok r) st' bl' → f ≡ true
taken_formed n i st bl c r st' bl' false b f s = absurd (accepted_never Place st bl r st' bl' s)
taken_formed n i st bl c r st' bl' true false f s = absurd (accepted_never Strange st bl r st' bl' s)
taken_formed n i st bl c r st' bl' true true false s = absurd (accepted_never (Malformed i) st bl r st' bl' s)
taken_formed n i st bl c r st' bl' true true true s = refl

taken : (n : ℕ) (p : Option Numbers) (st : State) (bl : Pairs (Halves ℕ)) (i : ℕ) (x : Pair) (r : Option Line) (st' : State) (bl' : Pairs (Halves ℕ)) → Tied n p st → Step (shares n) st bl (Load i x) (Ok r) st' bl' → Taken n p x
taken n p Idle bl i x r st' bl' t s = absurd (accepted_never Moment Idle bl r st' bl' s)
taken n p (Filling kept count) bl i x r st' bl' t s =
    record {
      formed = taken_formed n i (Filling kept count) bl (Load i x) r st' bl' (leb i count && ltb i kept.plan.size) (eqb n kept.modulus) (well_formed (shares n) x) s;
      kept = kept;
      force = t;
    }
taken n p (Running kept j) bl i x r st' bl' t s = absurd (accepted_never Moment (Running kept j) bl r st' bl' s)
taken n p (Finished kept) bl i x r st' bl' t s = absurd (accepted_never Moment (Finished kept) bl r st' bl' s)

-- ---- the next call

-- the pair that a load brings
brought : Call (Halves ℕ) → Pair
brought (PlanCall k size q1 q2) = (record { first = 0; second = 0 }, record { first = 0; second = 0 })
brought (Load i x) = x
brought Begin = (record { first = 0; second = 0 }, record { first = 0; second = 0 })
brought Advance = (record { first = 0; second = 0 }, record { first = 0; second = 0 })
brought (LineCall k) = (record { first = 0; second = 0 }, record { first = 0; second = 0 })
brought Restart = (record { first = 0; second = 0 }, record { first = 0; second = 0 })

bringing_itself : (c : Call (Halves ℕ)) → c ≡ bringing (brought c) c
unfolding brought
bringing_itself (PlanCall k size q1 q2) = refl
bringing_itself (Load i x) = refl
bringing_itself Begin = refl
bringing_itself Advance = refl
bringing_itself (LineCall k) = refl
bringing_itself Restart = refl

brought_alike : (n : ℕ) (h : Bool) (c : Call (Halves ℕ)) → AlikeLoad n h c (brought c)
unfolding brought
brought_alike n h (PlanCall k size q1 q2) = tt
brought_alike n h (Load i x) = refl
brought_alike n h Begin = tt
brought_alike n h Advance = tt
brought_alike n h (LineCall k) = tt
brought_alike n h Restart = tt

-- the words serve the rest of the list: one pair for each sample, below n, and the samples are sealed with them
pub record Serve (n : ℕ) (p : Option Numbers) (cs : List (Call (Halves ℕ))) (rs : Answers) (zs : List Complex) (ws : List (ℕ × ℕ)) : Type 0 where
  pub many : length ws ≡ length zs
  pub below : WordsBelow n ws
  pub sealed : AllSealed n p cs rs zs ws

-- the first call of the list with the second samples, and the samples that are left for the others
pub record Next (n : ℕ) (h : Bool) (p : Option Numbers) (c : Call (Halves ℕ)) (cs : List (Call (Halves ℕ))) (r : Result (Option Line) Refusal) (rs : Answers) (zs : List Complex) : Type 0 where
  pub pair : Pair
  pub later : List Complex
  pub calls : replaced (c ∷ cs) (r ∷ rs) (hidden_pairs n zs (masks n h (c ∷ cs) (r ∷ rs) zs)) ≡ bringing pair c ∷ replaced cs rs (hidden_pairs n later (masks n h cs rs later))
  pub alike : AlikeLoad n h c pair
  pub samples : SecondSamples (plan_after r c p) cs rs later
  pub serve : Serve n (plan_after r c p) cs rs later (masks n h cs rs later) → Serve n p (c ∷ cs) (r ∷ rs) zs (masks n h (c ∷ cs) (r ∷ rs) zs)

module _ (n : ℕ) (modulus : is_modulus n ≡ true) (h : Bool) (p : Option Numbers) (cs : List (Call (Halves ℕ))) (rs : Answers) (zs : List Complex) where
  -- a call that is no accepted load stays
  stays : (c : Call (Halves ℕ)) (r : Result (Option Line) Refusal) → loaded r c ≡ None → SecondSamples p (c ∷ cs) (r ∷ rs) zs → Next n h p c cs r rs zs
  stays c r e s =
      record {
        pair = brought c;
        later = zs;
        calls = rw e (ap (λ (k : Call (Halves ℕ)). k ∷ replaced cs rs (hidden_pairs n zs (masks n h cs rs zs))) (bringing_itself c));
        alike = brought_alike n h c;
        samples = rw e at s;
        serve = λ f. record { many = rw e f.many; below = rw e f.below; sealed = rw e f.sealed };
      }

module _ (n : ℕ) (modulus : is_modulus n ≡ true) (h : Bool) (p : Option Numbers) (cs : List (Call (Halves ℕ))) (rs : Answers) where
  seal_under : (z : Complex) (w : ℕ × ℕ) (kept : Kept) → InForce n p kept → InScale p z → w.0 < n → w.1 < n → SealedUnder n p z w
  seal_under z w kept f i a b =
      let q = f.numbers in
      let plan = kept.plan in
      let within : Within q.sample z = subst (λ (o : Option Numbers). InScale o z) f.force i in
      let room : plan.sample_scale ≤ bound n = scale_sealed plan.method plan.size plan.sample_scale plan.twiddle_scale n plan.size_lawful f.fits in
      let room' : q.sample ≤ bound n = rw f.sample at room in
      subst (λ (o : Option Numbers). SealedUnder n o z w) (sym f.force) (sealed_as n modulus q.sample z w within room' a b)

  -- an accepted load brings the next sample under its words
  loads : (i : ℕ) (x : Pair) (r : Option Line) (zs : List Complex) → Taken n p x → SecondSamples p (Load i x ∷ cs) (Ok r ∷ rs) zs → Next n h p (Load i x) cs (Ok r) rs zs
  loads i x r [] t s = absurd s
  loads i x r (z ∷ zs) t s =
      let a = word_below n modulus z.re x.0 (and_first ((shares n).wf x.0) ((shares n).wf x.1) t.formed) h in
      let b = word_below n modulus z.im x.1 (and_second ((shares n).wf x.0) ((shares n).wf x.1) t.formed) h in
      record {
        pair = hidden_pair n z (words n h z x);
        later = zs;
        calls = refl;
        alike = words_known n modulus h z x t.formed;
        samples = s.1;
        serve = λ f. record { many = ap suc f.many; below = (a, b, f.below); sealed = (seal_under z (words n h z x) t.kept t.force s.0 a b, f.sealed) };
      }

  pub next : (c : Call (Halves ℕ)) (r : Result (Option Line) Refusal) (zs : List Complex) (st : State) (bl : Pairs (Halves ℕ)) (st' : State) (bl' : Pairs (Halves ℕ)) → Tied n p st → Step (shares n) st bl c r st' bl' → SecondSamples p (c ∷ cs) (r ∷ rs) zs → Next n h p c cs r rs zs
  next c (Err x) zs st bl st' bl' t k s = stays n modulus h p cs rs zs c (Err x) refl s
  next (PlanCall m size q1 q2) (Ok r) zs st bl st' bl' t k s = stays n modulus h p cs rs zs (PlanCall m size q1 q2) (Ok r) refl s
  next (Load i x) (Ok r) zs st bl st' bl' t k s = loads i x r zs (taken n p st bl i x r st' bl' t k) s
  next Begin (Ok r) zs st bl st' bl' t k s = stays n modulus h p cs rs zs Begin (Ok r) refl s
  next Advance (Ok r) zs st bl st' bl' t k s = stays n modulus h p cs rs zs Advance (Ok r) refl s
  next (LineCall i) (Ok r) zs st bl st' bl' t k s = stays n modulus h p cs rs zs (LineCall i) (Ok r) refl s
  next Restart (Ok r) zs st bl st' bl' t k s = stays n modulus h p cs rs zs Restart (Ok r) refl s

-- ---- all calls

module _ (n : ℕ) (modulus : is_modulus n ≡ true) (h : Bool) where
  pub masks_serve : (cs : List (Call (Halves ℕ))) (ts : List (After (Halves ℕ))) (p : Option Numbers) (st : State) (bl : Pairs (Halves ℕ)) (zs : List Complex) → Tied n p st → Run (shares n) st bl cs ts → SecondSamples p cs (answers_of ts) zs → Serve n p cs (answers_of ts) zs (masks n h cs (answers_of ts) zs)
  masks_serve [] [] p st bl zs t k s = record { many = ap length (sym s); below = tt; sealed = tt }
  masks_serve [] (u ∷ ts) p st bl zs t k s = absurd k
  masks_serve (c ∷ cs) [] p st bl zs t k s = absurd k
  masks_serve (c ∷ cs) (u ∷ ts) p st bl zs t k s =
      let f = next n modulus h p cs (answers_of ts) c u.answer zs st bl k.0 u.block t k.1 s in
      f.serve (masks_serve cs ts (plan_after u.answer c p) k.0 u.block f.later (tied_step n p c st bl u.answer k.0 u.block t k.1) k.2 f.samples)

  -- a first run, and any run of the list with the second samples from the same state over an alike block
  pub runs_same : (cs : List (Call (Halves ℕ))) (ts : List (After (Halves ℕ))) (p : Option Numbers) (st : State) (xs ys : Pairs (Halves ℕ)) (zs : List Complex) → Tied n p st → Alike n h xs ys → Run (shares n) st xs cs ts → SecondSamples p cs (answers_of ts) zs → (us : List (After (Halves ℕ))) → Run (shares n) st ys (replaced cs (answers_of ts) (hidden_pairs n zs (masks n h cs (answers_of ts) zs))) us → AllSame h ts us
  runs_same [] [] p st xs ys zs t e k s [] l = tt
  runs_same [] [] p st xs ys zs t e k s (v ∷ us) l = absurd l
  runs_same [] (u ∷ ts) p st xs ys zs t e k s us l = absurd k
  runs_same (c ∷ cs) [] p st xs ys zs t e k s us l = absurd k
  runs_same (c ∷ cs) (u ∷ ts) p st xs ys zs t e k s us l =
      let f = next n modulus h p cs (answers_of ts) c u.answer zs st xs k.0 u.block t k.1 s in
      go f us (subst (λ (ds : List (Call (Halves ℕ))). Run (shares n) st ys ds us) f.calls l) (λ vs bl a m. runs_same cs ts (plan_after u.answer c p) k.0 u.block bl f.later (tied_step n p c st xs u.answer k.0 u.block t k.1) a k.2 f.samples vs m)
    where
      go : (f : Next n h p c cs u.answer (answers_of ts) zs) (us : List (After (Halves ℕ))) → Run (shares n) st ys (bringing f.pair c ∷ replaced cs (answers_of ts) (hidden_pairs n f.later (masks n h cs (answers_of ts) f.later))) us → ((vs : List (After (Halves ℕ))) (bl : Pairs (Halves ℕ)) → Alike n h u.block bl → Run (shares n) k.0 bl (replaced cs (answers_of ts) (hidden_pairs n f.later (masks n h cs (answers_of ts) f.later))) vs → AllSame h ts vs) → AllSame h (u ∷ ts) us
      go f [] l more = absurd l
      go f (v ∷ vs) l more =
          let same = step_same n (split_sound n modulus) h p xs ys e u.answer v.answer k.0 l.0 u.block v.block c f.pair st t f.alike k.1 l.1 in (
            record { declined = same.refusal; held = alike_held n h u.block v.block same.blocks },
            more vs v.block same.blocks (subst (λ (s' : State). Run (shares n) s' v.block (replaced cs (answers_of ts) (hidden_pairs n f.later (masks n h cs (answers_of ts) f.later))) vs) (sym same.state) l.2),
          )
