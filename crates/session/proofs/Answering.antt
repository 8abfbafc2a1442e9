-- Lines answered one after another by their turns, and what that comes to for the console.
use Rattle.std.proofs.Common.{◌≡◌, ℕ, ◌+◌, ◌-◌, ◌<◌, ◌≤◌, List, [], ◌∷◌, ◌++◌, length, get_or, take, drop, Some, None, Ok, Option, ControlFlow, Continue, Break, sym, refl, ap, ◌∙◌, subst, inl, inr, append_assoc, arith, length-append, length-drop}
use Rattle.std.proofs.lemmas.List.{append-nil, drop_more, drop_all, take_all, length_push, take_rest}
use Rattle.command.specs.declared.kinds.Choice.{Choice}
use Rattle.command.specs.declared.kinds.Command.TheVariants.{Choose}
use Rattle.session.specs.declared.schemes.Chosen.{Chosen}
use Rattle.session.specs.declared.serving.Session.{Session}
use Rattle.scheme.specs.Meaning.{Meaning}
use Rattle.states.specs.declared.State.{State}
use Rattle.states.specs.declared.State.TheVariants.{Idle}
use Rattle.states.specs.Step.{Pairs}
use Rattle.session.specs.Session.{Decoded, Answer, Console, absent, Turn, Turns}
use Rattle.session.specs.Serving.{Makes, Turning, TurningAbsent, ReadyFor, Served, Answered, AnsweredBy, More, ServedFrom, ServedAbsent}
use Rattle.session.proofs.Phases.{turns_next, ready_chosen}

-- the lines that have no answer yet
pub lines_left : (ds : List Decoded) (n : ℕ) (rs : List Answer) → n ≡ length rs → take (length ds - n) (drop n ds) ≡ drop (length rs) ds
lines_left ds n rs e = take_rest ds n ∙ ap (λ (k : ℕ). drop k ds) e

module _ {F : Type 0} (step : F → Decoded → ControlFlow Chosen Answer → F → Type 0) (start : F) (ds : List Decoded) (before : List Answer) where
  -- the lines answered so far
  pub record Progress (f : F) (i : ℕ) (rs : List Answer) : Type 0 where
    pub added : List Answer
    pub answers : rs ≡ before ++ added
    pub turns : (later : List Answer) (next : Option Chosen) → Answered step f (drop i ds) later next → Answered step start ds (added ++ later) next

  pub progress_more : (f g : F) (i : ℕ) (rs : List Answer) → Progress f i rs → (d : Decoded) → i < length ds → (a : Answer) → step f (get_or ds i d) (Continue a) g → Progress g (i + 1) (rs ++ a ∷ [])
  progress_more f g i rs h d low a turn = record {
    added = h.added ++ a ∷ [];
    answers = ap (λ (xs : List Answer). xs ++ a ∷ []) h.answers ∙ append_assoc before h.added (a ∷ []);
    turns = λ later next more. rw (append_assoc h.added (a ∷ []) later) (h.turns (a ∷ later) next (rw (drop_more ds i d low) (inl (g, turn, more))));
  }

  pub progress_chosen : (f g : F) (i : ℕ) (rs : List Answer) (h : Progress f i rs) → (d : Decoded) → i < length ds → (s : Chosen) → step f (get_or ds i d) (Break s) g → Answered step start ds (h.added ++ Ok None ∷ []) (Some s)
  progress_chosen f g i rs h d low s turn = h.turns (Ok None ∷ []) (Some s) (rw (drop_more ds i d low) (inr (g, s, turn, refl, refl, refl)))

  pub progress_all : (f : F) (i : ℕ) (rs : List Answer) (h : Progress f i rs) → length ds ≤ i → Answered step start ds h.added None
  progress_all f i rs h past = subst (λ (xs : List Answer). Answered step start ds xs None) (append-nil h.added) (h.turns [] None (rw (drop_all i ds past) refl))

-- where a scheme was chosen there are more answers than before
more_by : {F : Type 0} (step : F → Decoded → ControlFlow Chosen Answer → F → Type 0) (f : F) (ds : List Decoded) (before added : List Answer) (next : Option Chosen) → Answered step f ds added next → More (length before) (length (before ++ added)) next
more_by step f ds before added None h = tt
more_by step f [] before [] (Some s) h = absurd (let z : ◌≡◌ {A = ℕ} 0 1 = cc in omega arith)
more_by step f [] before (a ∷ rs) (Some s) h = absurd h
more_by step f (d ∷ ds) before [] (Some s) h = absurd h
more_by step f (d ∷ ds) before (a ∷ rs) (Some s) h = omega (arith, length-append before (a ∷ rs))

pub answered_more : {F : Type 0} (step : F → Decoded → ControlFlow Chosen Answer → F → Type 0) (f : F) (before after : Session) (next : Option Chosen) → AnsweredBy step f before after next → More (length before.answers.items) (length after.answers.items) next
answered_more step f before after next h = subst (λ (xs : List Answer). More (length before.answers.items) (length xs) next) (sym h.answers) (more_by step f (drop (length before.answers.items) before.lines.now) before.answers.items h.added next h.turns)

module _ {F : Type 0} (step : F → Decoded → ControlFlow Chosen Answer → F → Type 0) (con : F → Console) (Holds : F → Type 0) (answers : (f : F) (d : Decoded) (a : Answer) (g : F) → Holds f → step f d (Continue a) g → Turn (con f) d a (con g) × Holds g) (chooses : (f : F) (d : Decoded) (s : Chosen) (g : F) → Holds f → step f d (Break s) g → (c : Choice) × (d ≡ Ok (Choose c)) × Makes c s) where
  served_by : (w : Console) (ds left : List Decoded) (before added : List Answer) (next : Option Chosen) (f : F) → Holds f → drop (length before) ds ≡ left → Turns w (take (length before) ds) before (con f) → Answered step f left added next → Served w ds (before ++ added) next
  served_by w ds [] before [] next f holds e t h =
      let past : length ds ≤ length before = omega (arith, length-drop (length before) ds, ap length e) in
      subst (λ (o : Option Chosen). Served w ds (before ++ []) o) (sym h) (con f, rw (append-nil before) (subst (λ (xs : List Decoded). Turns w xs before (con f)) (take_all (length before) ds past) t))
  served_by w ds [] before (a ∷ rs) next f holds e t h = absurd h
  served_by w ds (d ∷ left) before [] next f holds e t h = absurd h
  served_by w ds (d ∷ left) before (a ∷ rs) next f holds e t (inl (g, turn, more)) =
      let low : length before < length ds = omega (arith, length-drop (length before) ds, ap length e) in
      let here : get_or ds (length before) d ∷ drop (length before + 1) ds ≡ d ∷ left = sym (drop_more ds (length before) d low) ∙ e in
      let is : get_or ds (length before) d ≡ d = cc in
      let later : drop (length before + 1) ds ≡ left = cc in
      let one = answers f d a g holds turn in
      subst (λ (xs : List Answer). Served w ds xs next) (append_assoc before (a ∷ []) rs)
      (served_by w ds left (before ++ a ∷ []) rs next g one.1 (ap (λ (n : ℕ). drop n ds) (length_push before a) ∙ later) (turns_next w (con f) (con g) ds before d a low is t one.0) more)
  served_by w ds (d ∷ left) before (a ∷ rs) next f holds e t (inr (g, s, turn, one, none, chosen)) =
      let low : length before < length ds = omega (arith, length-drop (length before) ds, ap length e) in
      let here : get_or ds (length before) d ∷ drop (length before + 1) ds ≡ d ∷ left = sym (drop_more ds (length before) d low) ∙ e in
      let is : get_or ds (length before) d ≡ d = cc in
      let c = chooses f d s g holds turn in
      subst (λ (o : Option Chosen). Served w ds (before ++ a ∷ rs) o) (sym chosen)
      (subst (λ (xs : List Answer). ReadyFor w ds (before ++ a ∷ xs) s) (sym none)
      (subst (λ (x : Answer). ReadyFor w ds (before ++ x ∷ []) s) (sym one)
      (ready_chosen w (con f) ds before c.0 s low (subst (λ (x : Decoded). get_or ds (length before) x ≡ x) c.1 is) c.2 t)))

  pub answered_served : (w : Console) (f : F) (before after : Session) (next : Option Chosen) → Holds f → Turns w (take (length before.answers.items) before.lines.now) before.answers.items (con f) → AnsweredBy step f before after next → Served w before.lines.now after.answers.items next
  answered_served w f before after next holds t h =
      subst (λ (xs : List Answer). Served w before.lines.now xs next) (sym h.answers) (served_by w before.lines.now (drop (length before.answers.items) before.lines.now) before.answers.items h.added next f holds refl t h.turns)

pub absent_served : {F : Type 0} (step : F → Decoded → ControlFlow Chosen Answer → F → Type 0) (f : F) → ((f : F) (d : Decoded) (r : ControlFlow Chosen Answer) (g : F) → step f d r g → TurningAbsent d r) → (before after : Session) (next : Option Chosen) → AnsweredBy step f before after next → ServedAbsent before after next
absent_served step f each before after next h = record {
  lines = h.lines;
  served = λ none. answered_served step (λ f. absent) (λ f. Unit {0}) (λ f d a g holds turn. (each f d (Continue a) g turn, tt)) (λ f d s g holds turn. each f d (Break s) g turn) absent f before after next tt (subst (λ (rs : List Answer). Turns absent (take (length rs) before.lines.now) rs absent) (sym none) refl) h;
  more = answered_more step f before after next h;
}

pub window_served : {F N : Type 0} (m : Meaning N) (step : F → Decoded → ControlFlow Chosen Answer → F → Type 0) (state : F → State) (block : F → Pairs N) (Holds : F → Type 0) → ((f : F) (d : Decoded) (r : ControlFlow Chosen Answer) (g : F) → Holds f → step f d r g → Turning m (state f) (block f) d r (state g) (block g) × Holds g) → (f : F) → Holds f → state f ≡ Idle → length (block f) ≡ 256 → (before after : Session) (next : Option Chosen) → AnsweredBy step f before after next → ServedFrom m before after next
window_served m step state block Holds each f holds idle long before after next h = record {
  lines = h.lines;
  served = λ w held embeds ready. answered_served step (λ f. held (state f) (block f)) Holds (λ f d a g holds turn. let t = each f d (Continue a) g holds turn in (embeds (state f) (block f) d a (state g) (block g) t.0, t.1)) (λ f d s g holds turn. (each f d (Break s) g holds turn).0) w f before after next holds (subst (λ (s : State). Turns w (take (length before.answers.items) before.lines.now) before.answers.items (held s (block f))) (sym idle) (ready (block f) long)) h;
  more = answered_more step f before after next h;
}
