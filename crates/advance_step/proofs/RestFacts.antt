-- What the answers for the parts of a contract say of the whole.
use Rattle.std.proofs.Common.{◌≡◌, ◌≤◌, ◌<◌, ◌+◌, ◌-◌, ℕ, suc, ℤ, pos, negsuc, ◌+ℤ◌, min, refl, sym}
use Rattle.std.proofs.Common.{subst}
use Rattle.std.proofs.Common.{Option, Some, None, Result, Ok, Err, IfErr, IfOk, List, [], ◌∷◌, ap}
use Rattle.std.proofs.Common.{ap₂, ◌∙◌}
use Rattle.std.specs.declared.rc.Rc.{Rc}
use Rattle.std.specs.Global.{Global}
use Rattle.term_model.specs.declared.values.Missing.{Missing as MissingPlace}
use Rattle.term_core.specs.declared.shared.SharedContr.{SharedContr}
use Rattle.term_model.specs.DayCounts.{Num as Count}
use Rattle.term_model.specs.Terms.{Expression, Contract, Zero, Pay, Both, Scale, After, Let, Within}
use Rattle.term_model.specs.Environments.{Environment}
use Rattle.term_model.specs.Values.{Entry}
use Rattle.term_model.specs.Shifts.{shifted}
use Rattle.term_core.specs.SharedTerms.{shared, StoresOffsets}
use Rattle.expr_eval.specs.declared.scratch.Binding.{Binding}
use Rattle.expr_eval.specs.Rooms.{Room}
use Rattle.expr_eval.specs.Trials.{DayOrMissing}
use Rattle.flow_eval.specs.declared.faults.FlowErr.{FlowErr}
use Rattle.flow_eval.specs.Readiness.{IsUpTo}
use Rattle.flow_eval.specs.Faults.{lacks_memory, lacks_place}
use Rattle.advance_step.specs.declared.span.Span.{Span}
use Rattle.fixing_files.specs.Knowledge.{Knowledge}
use Rattle.advance_step.specs.WhatIsLeft.{both_left, left_of, let_left, scale_left}
use Rattle.advance_step.specs.CarryingWalk.{AnswersLeft, AnswersRest, EntersOn, IsFirstDay}
use Rattle.advance_step.specs.CarryingWalk.{IsLeftOn}
use Rattle.advance_step.specs.CarryingWalk.{IsLeft, LacksRead, LacksReadOn}
use Rattle.advance_step.proofs.WalkFacts.{after_is_left, after_lacks, bound_is_left, bound_lacks}
use Rattle.advance_step.proofs.WalkFacts.{hit_is_left, hit_lacks, left_lacks, miss_is_left}
use Rattle.advance_step.proofs.WalkFacts.{miss_lacks}
use Rattle.advance_step.proofs.WalkFacts.{named, right_lacks, scale_lacks, test_lacks}
use Rattle.advance_step.proofs.WalkFacts.{waits_is_left}

-- an answer of a walk
abbrev pub Answer : Type 0
Answer = Result (Rc SharedContr Global) FlowErr

-- ---- faults

-- the fault that an answer is
pub fault_in : (b : Knowledge) (c : Contract) (room : Room) (span : Span) (o : Answer) (e : FlowErr)
    → o ≡ Err e → AnswersRest b c room span o → LacksReadOn b c room span e
fault_in b c room span (Ok r) e is h = absurd (cc)
fault_in b c room span (Err x) e is h =
    let same : x ≡ e = cc in
    subst (λ (y : FlowErr). LacksReadOn b c room span y) same h

-- a fault is an answer
pub fails : (b : Knowledge) (c : Contract) (room : Room) (span : Span) (o : Answer) (e : FlowErr)
    → o ≡ Err e → LacksReadOn b c room span e → AnswersRest b c room span o
fails b c room span (Ok r) e is h = absurd (cc)
fails b c room span (Err x) e is h =
    let same : e ≡ x = cc in
    subst (λ (y : FlowErr). LacksReadOn b c room span y) same h

-- ---- the same by other names

pub same_contract : (b : Knowledge) (c c' : Contract) (room : Room) (span : Span) (o : Answer)
    → c' ≡ c → AnswersRest b c' room span o → AnswersRest b c room span o
same_contract b c c' room span o is h = subst (λ (x : Contract). AnswersRest b x room span o) is h

pub same_room : (b : Knowledge) (c : Contract) (room room' : Room) (span : Span) (o : Answer)
    → room' ≡ room → AnswersRest b c room' span o → AnswersRest b c room span o
same_room b c room room' span o is h = subst (λ (r : Room). AnswersRest b c r span o) is h

-- an answer for a part is one for the whole
pub answers : (b : Knowledge) (c c' : Contract) (room room' : Room) (span span' : Span) (o : Answer)
    → ((r : Contract) → IsLeftOn b c' room' span' r → IsLeftOn b c room span r)
    → ((e : FlowErr) → LacksReadOn b c' room' span' e → LacksReadOn b c room span e)
    → AnswersRest b c' room' span' o → AnswersRest b c room span o
answers b c c' room room' span span' (Ok r) left lacks h = (left (shared r.value) h.0, h.1)
answers b c c' room room' span span' (Err e) left lacks h = lacks e h

-- ---- nothing

nothing_answers : (b : Knowledge) (c : Contract) (room : Room) (span : Span) (o : Answer)
    → ((g : List Entry) (env : Environment) → left_of b.decls c g env span.day span.last ≡ Zero)
    → IfOk o (λ r. shared r.value ≡ Zero) → IfOk o (λ r. StoresOffsets r.value)
    → IfErr o (λ e. e ≡ lacks_memory) → AnswersRest b c room span o
nothing_answers b c room span (Ok r) none tree stores memory =
    (λ g ps env stand ext. tree ∙ sym (none g env), stores)
nothing_answers b c room span (Err e) none tree stores memory =
    subst (λ (x : FlowErr). LacksReadOn b c room span x) (sym memory) tt

pub zero_answers : (b : Knowledge) (c : Contract) (room : Room) (span : Span) (o : Answer) → Zero ≡ c
    → IfOk o (λ r. shared r.value ≡ Zero) → IfOk o (λ r. StoresOffsets r.value)
    → IfErr o (λ e. e ≡ lacks_memory) → AnswersRest b c room span o
zero_answers b c room span o is tree stores memory =
    same_contract b c Zero room span o is
    (nothing_answers b Zero room span o (λ g env. refl) tree stores memory)

pub pay_answers : (b : Knowledge) (c : Contract) (x p q : ℕ) (room : Room) (span : Span) (o : Answer)
    → Pay x p q ≡ c
    → IfOk o (λ r. shared r.value ≡ Zero) → IfOk o (λ r. StoresOffsets r.value)
    → IfErr o (λ e. e ≡ lacks_memory) → AnswersRest b c room span o
pay_answers b c x p q room span o is tree stores memory =
    same_contract b c (Pay x p q) room span o is
    (nothing_answers b (Pay x p q) room span o (λ g env. refl) tree stores memory)

-- ---- two parts, and a factor

pub left_fails : (b : Knowledge) (x x' y : Contract) (room : Room) (span : Span) (o o' : Answer)
    (e : FlowErr)
    → x' ≡ x → o ≡ Err e → o' ≡ Err e → AnswersRest b x' room span o
    → AnswersRest b (Both x y) room span o'
left_fails b x x' y room span o o' e hx ho ho' h =
    let part = fault_in b x room span o e ho (same_contract b x x' room span o hx h) in
    fails b (Both x y) room span o' e ho'
    (left_lacks b.decls x y room.entries b.fixings span.day span.last e part)

pub right_fails : (b : Knowledge) (x y y' : Contract) (room room' : Room) (span : Span) (o o' : Answer)
    (e : FlowErr) → y' ≡ y → room' ≡ room → o ≡ Err e → o' ≡ Err e → AnswersRest b y' room' span o
    → AnswersRest b (Both x y) room span o'
right_fails b x y y' room room' span o o' e hy hr ho ho' h =
    let here = same_room b y room room' span o hr (same_contract b y y' room' span o hy h) in
    let part = fault_in b y room span o e ho here in
    fails b (Both x y) room span o' e ho'
    (right_lacks b.decls x y room.entries b.fixings span.day span.last e part)

pub both_is_left : (b : Knowledge) (x x' y y' l m r : Contract) (room room' : Room) (span : Span)
    → x' ≡ x → y' ≡ y → room' ≡ room → IsLeftOn b x' room span l → IsLeftOn b y' room' span m
    → r ≡ both_left l m → IsLeftOn b (Both x y) room span r
both_is_left b x x' y y' l m r room room' span hx hy hr left right is =
    let one : IsLeftOn b x room span l =
    subst (λ (c : Contract). IsLeftOn b c room span l) hx left in
    let here : IsLeftOn b y' room span m =
    subst (λ (t : Room). IsLeftOn b y' t span m) hr right in
    let two : IsLeftOn b y room span m =
    subst (λ (c : Contract). IsLeftOn b c room span m) hy here in
    λ g ps env stand ext. is ∙ ap₂ both_left (one g ps env stand ext) (two g ps env stand ext)

pub scale_fails : (b : Knowledge) (f : Expression) (x x' : Contract) (room : Room) (span : Span)
    (o o' : Answer) (e : FlowErr) → x' ≡ x → o ≡ Err e → o' ≡ Err e → AnswersRest b x' room span o
    → AnswersRest b (Scale f x) room span o'
scale_fails b f x x' room span o o' e hx ho ho' h =
    let part = fault_in b x room span o e ho (same_contract b x x' room span o hx h) in
    fails b (Scale f x) room span o' e ho'
    (scale_lacks b.decls f x room.entries b.fixings span.day span.last e part)

pub scale_is_left : (b : Knowledge) (f : Expression) (k k' : ℤ) (x x' l r : Contract) (room : Room)
    (span : Span) → k' ≡ k → x' ≡ x → IsLeftOn b x' room span l
    → r ≡ scale_left (shifted (negsuc span.last) (shifted k' f)) l
    → IsLeftOn b (Scale (shifted k f) x) room span r
scale_is_left b f k k' x x' l r room span hk hx left is =
    let one : IsLeftOn b x room span l =
    subst (λ (c : Contract). IsLeftOn b c room span l) hx left in
    λ g ps env stand ext.
    is ∙ ap (λ (i : ℤ). scale_left (shifted (negsuc span.last) (shifted i f)) l) hk
    ∙ ap (λ (y : Contract). scale_left (shifted (negsuc span.last) (shifted k f)) y)
    (one g ps env stand ext)

-- ---- a delay

pub after_answers : (b : Knowledge) (x x' : Contract) (n : ℕ) (room : Room) (span span' : Span)
    (o : Answer)
    → x' ≡ x → n ≤ span.last → span'.day ≡ span.day +ℤ pos n → span'.last ≡ span.last - n
    → AnswersRest b x' room span' o → AnswersRest b (After (Count n) x) room span o
after_answers b x x' n room span span' o hx le hd hl h =
    let d = b.decls in
    let es = room.entries in
    let F = b.fixings in
    answers b (After (Count n) x) x room room span span' o
    (λ r left. after_is_left d x es F n span.last span'.last span.day span'.day r le hd hl left)
    (λ e lacks. after_lacks d x es F n span.last span'.last span.day span'.day e le hd hl lacks)
    (same_contract b x x' room span' o hx h)

-- ---- a name

pub bound_fails : (b : Knowledge) (entry : Binding) (e e' : Expression) (k k' : ℤ) (x x' : Contract)
    (room room' : Room) (span : Span) (o o' : Answer) (y : FlowErr) → k' ≡ k → e' ≡ e → x' ≡ x
    → room'.entries ≡ entry ∷ room.entries → EntersOn b (shifted k' e') room span entry
    → o ≡ Err y → o' ≡ Err y → AnswersRest b x' room' span o
    → AnswersRest b (Let (shifted k e) x) room span o'
bound_fails b entry e e' k k' x x' room room' span o o' y hk he hx hr enters ho ho' h =
    let part = fault_in b x' room' span o y ho h in
    fails b (Let (shifted k e) x) room span o' y ho'
    (bound_lacks b.decls b.fixings room.entries room'.entries entry e e' k k' span.day span.day
    span.day x x' span.last y hk he refl refl hx hr enters part)

pub body_is_left : (b : Knowledge) (entry : Binding) (e e' : Expression) (k k' k'' : ℤ)
    (x x' l r : Contract)
    (room room' : Room) (span : Span) → k' ≡ k → k'' ≡ k → e' ≡ e → x' ≡ x
    → room'.entries ≡ entry ∷ room.entries → EntersOn b (shifted k' e') room span entry
    → IsLeftOn b x' room' span l → r ≡ let_left (shifted (negsuc span.last) (shifted k'' e)) l
    → IsLeftOn b (Let (shifted k e) x) room span r
body_is_left b entry e e' k k' k'' x x' l r room room' span hk hk' he hx hr enters left is =
    bound_is_left b.decls b.fixings room.entries room'.entries entry e e' k k' k'' span.day span.day
    span.day x x' l r span.last hk hk' he refl refl hx hr enters left is

-- ---- a test

-- a day that was found is among those gone by
pub found_among : (o : Option ℕ) (k n : ℕ) → o ≡ Some k → IsUpTo o n → k ≤ n
found_among o k n is h = subst (λ (x : Option ℕ). IsUpTo x n) is h

pub test_fails : (b : Knowledge) (e e' : Expression) (n : ℕ) (x y : Contract) (room : Room)
    (span : Span)
    (first : DayOrMissing) (m : MissingPlace) (o : Answer) → e' ≡ e
    → IsFirstDay b e' room span n first
    → first ≡ Err m → o ≡ Err (lacks_place m) → AnswersRest b (Within e (Count n) x y) room span o
test_fails b e e' n x y room span first m o he tried is ho =
    let here : IsFirstDay b e room span n first =
    subst (λ (t : Expression). IsFirstDay b t room span n first) he tried in
    fails b (Within e (Count n) x y) room span o (lacks_place m) ho
    (test_lacks b.decls e x y room.entries b.fixings n span.last (min n span.last + 1) span.day
    first m
    refl here is)

pub hit_answers : (b : Knowledge) (e e' : Expression) (n k : ℕ) (x x' y : Contract) (room : Room)
    (span span' : Span) (first : DayOrMissing) (o : Answer) → e' ≡ e → x' ≡ x
    → IsFirstDay b e' room span n first → first ≡ Ok (Some k) → k ≤ span.last
    → span'.day ≡ span.day +ℤ pos k → span'.last ≡ span.last - k → AnswersRest b x' room span' o
    → AnswersRest b (Within e (Count n) x y) room span o
hit_answers b e e' n k x x' y room span span' first o he hx tried is le hd hl h =
    let d = b.decls in
    let es = room.entries in
    let F = b.fixings in
    let t = min n span.last + 1 in
    let here : IsFirstDay b e room span n first =
    subst (λ (a : Expression). IsFirstDay b a room span n first) he tried in
    answers b (Within e (Count n) x y) x room room span span' o
    (λ r left. hit_is_left d e x y es F n span.last span'.last k t span.day span'.day first r refl
    here
    is hd hl left)
    (λ z lacks. hit_lacks d e x y es F n span.last span'.last k t span.day span'.day first z refl
    here
    is le hd hl lacks)
    (same_contract b x x' room span' o hx h)

pub miss_answers : (b : Knowledge) (e e' : Expression) (n : ℕ) (x y y' : Contract) (room : Room)
    (span span' : Span) (first : DayOrMissing) (o : Answer) → e' ≡ e → y' ≡ y
    → IsFirstDay b e' room span n first → first ≡ Ok None → n ≤ span.last
    → span'.day ≡ span.day +ℤ pos n → span'.last ≡ span.last - n → AnswersRest b y' room span' o
    → AnswersRest b (Within e (Count n) x y) room span o
miss_answers b e e' n x y y' room span span' first o he hy tried is le hd hl h =
    let d = b.decls in
    let es = room.entries in
    let F = b.fixings in
    let t = min n span.last + 1 in
    let here : IsFirstDay b e room span n first =
    subst (λ (a : Expression). IsFirstDay b a room span n first) he tried in
    answers b (Within e (Count n) x y) y room room span span' o
    (λ r left. miss_is_left d e x y es F n span.last span'.last t span.day span'.day first r refl
    here
    is le hd hl left)
    (λ z lacks. miss_lacks d e x y es F n span.last span'.last t span.day span'.day first z refl
    here
    is le hd hl lacks)
    (same_contract b y y' room span' o hy h)

pub waits_left : (b : Knowledge) (e e' : Expression) (n m : ℕ) (x y r : Contract) (room : Room)
    (span : Span)
    (first : DayOrMissing) → e' ≡ e → IsFirstDay b e' room span n first → first ≡ Ok None
    → span.last < n → m ≡ n - suc span.last → r ≡ Within e (Count m) x y
    → IsLeftOn b (Within e (Count n) x y) room span r
waits_left b e e' n m x y r room span first he tried is lt hm left =
    let here : IsFirstDay b e room span n first =
    subst (λ (a : Expression). IsFirstDay b a room span n first) he tried in
    waits_is_left b.decls e x y room.entries b.fixings n span.last m (min n span.last + 1) span.day
    first
    r refl here is lt hm left

-- ---- the whole

whole : (b : Knowledge) (c : Contract) (room : Room) (span : Span) (o : Answer) → room.entries ≡ []
    → AnswersRest b c room span o → AnswersLeft b.decls b.fixings c span.day span.last o
whole b c room span (Ok r) is h =
    let left : IsLeft b.decls c [] b.fixings span.day span.last (shared r.value) =
    subst (λ (es : List Binding). IsLeft b.decls c es b.fixings span.day span.last
    (shared r.value))
    is h.0 in
    (λ env ext. left [] [] env tt ext, h.1)
whole b c room span (Err e) is h =
    named b.decls c b.fixings span.day span.last e
    (subst (λ (es : List Binding). LacksRead b.decls c es b.fixings span.day span.last e) is h)

pub whole_answers : (b : Knowledge) (c c' : Contract) (room : Room) (span : Span) (o : Answer)
    → room.entries ≡ [] → c' ≡ c → AnswersRest b c' room span o
    → AnswersLeft b.decls b.fixings c span.day span.last o
whole_answers b c c' room span o is hc h =
    whole b c room span o is (same_contract b c c' room span o hc h)
