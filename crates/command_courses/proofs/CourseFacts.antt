-- What is true of every course whose stages exclude one another.
use Rattle.std.proofs.Common.{◌≡◌, ◌∙◌, inl, inr, ℕ, List, ap, refl, subst, sym}
use Rattle.report.specs.FaultLines.{fault_text}
use Rattle.report.specs.declared.fault_lines.Fault.{Fault}
use Rattle.command_courses.specs.Course.{Answers, Course, IsDue, IsPassed, Stage, Stops, Tells, behind, ends, stopped, tells, told}
use Rattle.command_courses.specs.Statuses.{status_of}
use Rattle.command_courses.specs.declared.status.Status.{Status}
use Rattle.command_courses.specs.declared.status.Status.TheVariants as status

-- ---- a course that does what another does

pub record Alike (c e : Course) : Type 0 where
  pub stops : (f : Fault) → Stops c f → Stops e f
  pub due : (s : Status) → IsDue c s → IsDue e s

pub alike_same : (c : Course) → Alike c c
alike_same c = record { stops = λ f h. h; due = λ s h. h }

pub alike_next : (A : Type 0) (next : A → Course) (a b : A) → a ≡ b → Alike (next a) (next b)
alike_next A next a b same = subst (λ (x : A). Alike (next a) (next x)) same (alike_same (next a))

-- ends with the same statuses, whatever their texts are
pub alike_ends : (Ending : Status → Type 0) (One Other : List ℕ → Type 0) → Alike (ends Ending One) (ends Ending Other)
alike_ends Ending One Other = record { stops = λ f h. h; due = λ s h. h }

-- stages that pass on the same and have the same faults
pub record SameStage (A : Type 0) (one other : Stage A) : Type 0 where
  pub status : one.status ≡ other.status
  pub passes : (a : A) → one.Passes a → other.Passes a
  pub back : (a : A) → other.Passes a → one.Passes a
  pub faults : (f : Fault) → one.FaultIs f → other.FaultIs f

module _ (A : Type 0) (one other : Stage A) (next more : A → Course) (same : SameStage A one other)
    (alike : (a : A) → one.Passes a → Alike (next a) (more a)) where
  stops_too : (f : Fault) → Stops (behind one next) f → Stops (behind other more) f
  stops_too f (inl h) = inl (same.faults f h)
  stops_too f (inr h) = inr (h.0, same.passes h.0 h.1, (alike h.0 h.1).stops f h.2)

  due_too : (s : Status) → IsDue (behind one next) s → IsDue (behind other more) s
  due_too s (inl h) = inl (sym same.status ∙ h.0, λ a p. h.1 a (same.back a p))
  due_too s (inr h) = inr (h.0, same.passes h.0 h.1, (alike h.0 h.1).due s h.2)

  pub alike_behind : Alike (behind one next) (behind other more)
  alike_behind = record {
    stops = stops_too;
    due = due_too;
  }

pub same_stage : (A : Type 0) (stage : Stage A) → SameStage A stage stage
same_stage A stage = record { status = refl; passes = λ a p. p; back = λ a p. p; faults = λ f h. h }

-- ---- sound courses: their stages exclude one another, and give statuses of which P holds

pub record IsStage (A : Type 0) (stage : Stage A) : Type 0 where
  pub excludes : (a : A) (f : Fault) → stage.Passes a → stage.FaultIs f → ⊥
  pub one_fault : (f g : Fault) → stage.FaultIs f → stage.FaultIs g → f ≡ g
  pub status_is : (f : Fault) → stage.FaultIs f → status_of f ≡ stage.status

abbrev pub Sound : (Status → Type 0) → Course → Type 0
Sound P (ends Ending IsText) = ((s : Status) → Ending s → P s) × ((s r : Status) → Ending s → Ending r → s ≡ r)
Sound P (behind {A} stage next) =
    P stage.status × IsStage A stage × ((a b : A) → stage.Passes a → stage.Passes b → Alike (next a) (next b))
    × ((a : A) → stage.Passes a → Sound P (next a))

-- a stage that passes on what is unique
pub one_next : (P : Status → Type 0) (A : Type 0) (stage : Stage A) (next : A → Course) → P stage.status → IsStage A stage
    → ((a b : A) → stage.Passes a → stage.Passes b → a ≡ b) → ((a : A) → stage.Passes a → Sound P (next a)) → Sound P (behind stage next)
one_next P A stage next h is one sound = (h, is, λ a b p q. alike_next A next a b (one a b p q), sound)

-- a stage that passes on nothing
pub onward : (P : Status → Type 0) (stage : Stage (Unit {0})) (next : Course) → P stage.status → IsStage (Unit {0}) stage → Sound P next → Sound P (behind stage (λ _. next))
onward P stage next h is sound = one_next P (Unit {0}) stage (λ _. next) h is (λ a b p q. refl) (λ a p. sound)

pub sound_more : (P Q : Status → Type 0) → ((s : Status) → P s → Q s) → (c : Course) → Sound P c → Sound Q c
sound_more P Q more (ends Ending IsText) w = (λ s h. more s (w.0 s h), w.1)
sound_more P Q more (behind {A} stage next) w = (more stage.status w.0, w.1, w.2, λ a p. sound_more P Q more (next a) (w.3 a p))

module _ (P : Status → Type 0) where
  -- a sound course stops at one fault
  pub one_fault : (c : Course) → Sound P c → (f g : Fault) → Stops c f → Stops c g → f ≡ g
  one_fault (ends Ending IsText) ok f g h k = absurd h
  one_fault (behind {A} stage next) ok f g (inl h) (inl k) = ok.1.one_fault f g h k
  one_fault (behind {A} stage next) ok f g (inl h) (inr k) = absurd (ok.1.excludes k.0 f k.1 h)
  one_fault (behind {A} stage next) ok f g (inr h) (inl k) = absurd (ok.1.excludes h.0 g h.1 k)
  one_fault (behind {A} stage next) ok f g (inr h) (inr k) =
      one_fault (next h.0) (ok.3 h.0 h.1) f g h.2 ((ok.2 k.0 h.0 k.1 h.1).stops g k.2)

  -- or it passes
  pub stops_or_passed : (c : Course) → Sound P c → (f : Fault) → Stops c f → IsPassed c → ⊥
  stops_or_passed (ends Ending IsText) ok f h p = h
  stops_or_passed (behind {A} stage next) ok f (inl h) p = ok.1.excludes p.0 f p.1 h
  stops_or_passed (behind {A} stage next) ok f (inr h) p =
      stops_or_passed (next p.0) (ok.3 p.0 p.1) f ((ok.2 h.0 p.0 h.1 p.1).stops f h.2) p.2

  -- what answers is due, and one status alone is
  stop_is_due : (c : Course) → Sound P c → (f : Fault) → Stops c f → IsDue c (status_of f)
  stop_is_due (ends Ending IsText) ok f h = absurd h
  stop_is_due (behind {A} stage next) ok f (inl h) = inl (sym (ok.1.status_is f h), λ a p. ok.1.excludes a f p h)
  stop_is_due (behind {A} stage next) ok f (inr h) = inr (h.0, h.1, stop_is_due (next h.0) (ok.3 h.0 h.1) f h.2)

  told_is_due : (c : Course) (s : Status) (text : List ℕ) → Tells c s text → IsDue c s
  told_is_due (ends Ending IsText) s text h = h.0
  told_is_due (behind {A} stage next) s text h = inr (h.0, h.1, told_is_due (next h.0) s text h.2)

  pub answer_is_due : (c : Course) → Sound P c → (s : Status) (text : List ℕ) → Answers c s text → IsDue c s
  answer_is_due c ok s text (stopped f h e line) = subst (λ (x : Status). IsDue c x) (sym e) (stop_is_due c ok f h)
  answer_is_due c ok s text (told h) = told_is_due c s text h

  pub one_due : (c : Course) → Sound P c → (s r : Status) → IsDue c s → IsDue c r → s ≡ r
  one_due (ends Ending IsText) ok s r h k = ok.1 s r h k
  one_due (behind {A} stage next) ok s r (inl h) (inl k) = sym h.0 ∙ k.0
  one_due (behind {A} stage next) ok s r (inl h) (inr k) = absurd (h.1 k.0 k.1)
  one_due (behind {A} stage next) ok s r (inr h) (inl k) = absurd (k.1 h.0 h.1)
  one_due (behind {A} stage next) ok s r (inr h) (inr k) =
      one_due (next h.0) (ok.3 h.0 h.1) s r h.2 ((ok.2 k.0 h.0 k.1 h.1).due r k.2)

  told_passes : (c : Course) (s : Status) (text : List ℕ) → Tells c s text → IsPassed c
  told_passes (ends Ending IsText) s text h = tt
  told_passes (behind {A} stage next) s text h = (h.0, h.1, told_passes (next h.0) s text h.2)

  pub one_status : (c : Course) → Sound P c → (s r : Status) (one other : List ℕ) → Answers c s one → Answers c r other → s ≡ r
  one_status c ok s r one other h k = one_due c ok s r (answer_is_due c ok s one h) (answer_is_due c ok r other k)

  -- a course that tells one text has one answer; and any course has one but where it tells
  module _ (c : Course) (ok : Sound P c) (s r : Status) (one other : List ℕ) (Same : Type 0) (same : one ≡ other → Same) (told_same : Tells c s one → Tells c r other → Same) where
    pub one_text : Answers c s one → Answers c r other → Same
    one_text (stopped f h e is) (stopped g k i was) = same (is ∙ ap fault_text (one_fault c ok f g h k) ∙ sym was)
    one_text (stopped f h e is) (told k) = absurd (stops_or_passed c ok f h (told_passes c r other k))
    one_text (told h) (stopped g k i was) = absurd (stops_or_passed c ok g k (told_passes c s one h))
    one_text (told h) (told k) = told_same h k

  -- where each stage passes, the answer is told
  pub passed_is_told : (c : Course) → Sound P c → IsPassed c → (s : Status) (text : List ℕ) → Answers c s text → Tells c s text
  passed_is_told c ok p s text (stopped f h e is) = absurd (stops_or_passed c ok f h p)
  passed_is_told c ok p s text (told h) = h

  -- a sound course that a fault stops has no answer but its line
  pub answers_stop : (c : Course) → Sound P c → (f : Fault) (s : Status) (text : List ℕ) → Stops c f → Answers c s text → (s ≡ status_of f) × (text ≡ fault_text f)
  answers_stop c ok f s text h (stopped g k e is) = let same = one_fault c ok g f k h in (e ∙ ap status_of same, is ∙ ap fault_text same)
  answers_stop c ok f s text h (told k) = absurd (stops_or_passed c ok f h (told_passes c s text k))

  -- a sound course has statuses of which P holds
  pub due_within : (c : Course) → Sound P c → (s : Status) → IsDue c s → P s
  due_within (ends Ending IsText) ok s h = ok.0 s h
  due_within (behind {A} stage next) ok s (inl h) = subst P h.0 ok.0
  due_within (behind {A} stage next) ok s (inr h) = due_within (next h.0) (ok.3 h.0 h.1) s h.2

-- the statuses that commands give
abbrev pub OfCommand : Status → Type 0
OfCommand status.Usage = ⊥
OfCommand status.ReadFault = ⊥
OfCommand status.TooLong = ⊥
OfCommand status.WriteFault = ⊥
OfCommand status.NoMemory = ⊥
OfCommand _ = Unit {0}

pub sound_tells : (IsText : List ℕ → Type 0) → Sound OfCommand (tells IsText)
sound_tells IsText = (λ s e. subst OfCommand (sym e) tt, λ s r h k. h ∙ sym k)
