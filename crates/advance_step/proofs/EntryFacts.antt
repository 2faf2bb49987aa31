-- The entry of a name that is bound to an expression, which is read some days later than it stands.
use Rattle.std.proofs.Common.{◌≡◌, ℤ, ◌+ℤ◌, List, ◌∷◌, Option, Some, Result, ap, ap₂, sym, subst}
use Rattle.term_model.specs.Declarations.{Declarations}
use Rattle.term_model.specs.declared.values.Kind.{Kind}
use Rattle.term_model.specs.declared.values.Value.{Value}
use Rattle.term_model.specs.declared.values.Missing.{Missing}
use Rattle.term_model.specs.Terms.{Expression}
use Rattle.term_model.specs.Environments.{Environment, Place}
use Rattle.term_model.specs.Kinds.{kind_of}
use Rattle.term_model.specs.Values.{Entry, kinds, kind_or, entry_of}
use Rattle.term_model.specs.Reads.{reads_of}
use Rattle.term_model.specs.Shifts.{shifted}
use Rattle.term_model.proofs.ShiftFacts.{kind-shifted, value-shifted}
use Rattle.term_model.proofs.ReadShiftFacts.{reads-shifted}
use Rattle.expr_eval.specs.declared.scratch.Binding.{Binding}
use Rattle.expr_eval.specs.declared.scratch.Held.{Held}
use Rattle.expr_eval.specs.Rooms.{kinds_of}
use Rattle.expr_eval.specs.Standing.{StandFor}
use Rattle.expr_eval.specs.Answers.{IsAnswer, SuitsBinding, entry_from, held_of}
use Rattle.expr_eval.proofs.AnswerFacts.{entered_stand_for}
use Rattle.advance_step.specs.CarryingWalk.{Enters, IsEntry}

moved_entry : (d : Declarations) (e : Expression) (k : ℤ) (g : List Entry) (env : Environment) (f : ℤ) → entry_of d (shifted k e) g env f ≡ entry_of d e g env (f +ℤ k)
moved_entry d e k g env f =
    ap₂ (λ (v : Value) (o : Option Kind). let entry : Entry = record { value = v; kind = kind_or o } in entry) (value-shifted d e k g env f) (kind-shifted d e k (kinds g))

made_of : (d : Declarations) (e : Expression) (bs : List Binding) (r : Result Value Missing) (kind : Kind) (held : Held) → Some kind ≡ kind_of d e (kinds_of bs) → held ≡ held_of r → entry_from d e bs r ≡ record { kind = kind; held = held }
made_of d e bs r kind held is_kind is_held =
    ap₂ (λ (j : Kind) (x : Held). let b : Binding = record { kind = j; held = x } in b) (sym (ap kind_or is_kind)) (sym is_held)

pub answer_enters : (d : Declarations) (e : Expression) (k f h : ℤ) (bs : List Binding) (F : Environment) (r : Result Value Missing) (kind : Kind) (held : Held) → h ≡ f +ℤ k → Some kind ≡ kind_of d e (kinds_of bs) → held ≡ held_of r → IsAnswer d e bs F h r
    → Enters d (shifted k e) bs F f (record { kind = kind; held = held })
answer_enters d e k f h bs F r kind held there is_kind is_held answer g known ps env stand stands ext =
    let at : IsAnswer d e bs F (f +ℤ k) r = subst (λ (x : ℤ). IsAnswer d e bs F x r) there answer in
    let entered = entered_stand_for d e bs F env (f +ℤ k) r g known ps at ext stand stands in
    subst (λ (qs : List Place). StandFor F (record { kind = kind; held = held } ∷ bs) (entry_of d (shifted k e) g env f ∷ g) (qs ∷ ps)) (sym (reads-shifted d e k known ps F f))
    (subst (λ (b : Binding). StandFor F (b ∷ bs) (entry_of d (shifted k e) g env f ∷ g) (reads_of d e known ps F (f +ℤ k) ∷ ps)) (made_of d e bs r kind held is_kind is_held)
    (subst (λ (x : Entry). StandFor F (entry_from d e bs r ∷ bs) (x ∷ g) (reads_of d e known ps F (f +ℤ k) ∷ ps)) (sym (moved_entry d e k g env f)) entered))

pub answer_suits : (d : Declarations) (e : Expression) (bs : List Binding) (r : Result Value Missing) (kind : Kind) (held : Held) → Some kind ≡ kind_of d e (kinds_of bs) → held ≡ held_of r → SuitsBinding d e bs r
    → IsEntry d e bs (record { kind = kind; held = held })
answer_suits d e bs r kind held is_kind is_held suits = record { answer = r; suits = suits; made = sym (made_of d e bs r kind held is_kind is_held) }
