-- A text has one first fault.
use Rattle.std.proofs.Common.{◌≡◌, ◌∙◌, ◌-◌, ℕ, List, length, ap, refl, sym}
use Rattle.std.specs.Str.{IsUtf8, IsValidUpTo}
use Rattle.std.proofs.lemmas.Str.{utf8_valid_len-IsValidUpTo}
use Rattle.contract_grammar.specs.Names.{nothing_declared}
use Rattle.contract_parse.specs.Expecting.{Stops as stops_at, expected_of, run}
use Rattle.contract_parse.specs.Lines.{line_at, column_at}
use Rattle.contract_grammar.specs.Tokens.{tokens}
use Rattle.contract_parse.specs.TextFaults.{FirstTextFault, IsTextFault, no_utf8, refused}
use Rattle.contract_grammar.specs.declared.terms.Language.{Language}
use Rattle.contract_grammar.specs.declared.faults.TextFault.{TextFault}
use Rattle.contract_grammar.specs.declared.faults.TextKind.{TextKind}
use Rattle.contract_grammar.specs.declared.faults.TextKind.TheVariants.{Utf8}

data FaultIs (l : Language) (bytes : List ℕ) (kind : TextKind) (at : ℕ) : Type 0 where
  broken : (IsUtf8 bytes → ⊥) → IsValidUpTo bytes at → kind ≡ Utf8 → FaultIs l bytes kind at
  refused_at :
      IsUtf8 bytes → (left : ℕ) → run nothing_declared (expected_of l) (tokens bytes) ≡ stops_at kind left → at ≡ length bytes - left
      → FaultIs l bytes kind at

fault_is : (l : Language) (bytes : List ℕ) (kind : TextKind) (at : ℕ) → FirstTextFault l bytes kind at → FaultIs l bytes kind at
fault_is l bytes kind at (no_utf8 not_utf8 valid) = broken not_utf8 valid refl
fault_is l bytes kind at (refused utf8 stops) = refused_at utf8 _ stops refl

one_position : (l : Language) (bytes : List ℕ) (kind other : TextKind) (at position : ℕ) → FaultIs l bytes kind at → FaultIs l bytes other position
    → (kind ≡ other) × (at ≡ position)
one_position l bytes kind other at position (broken n v e) (broken m w f) =
    (e ∙ sym f, sym (utf8_valid_len-IsValidUpTo bytes at v) ∙ utf8_valid_len-IsValidUpTo bytes position w)
one_position l bytes kind other at position (broken n v e) (refused_at u left stops f) = absurd (n u)
one_position l bytes kind other at position (refused_at u left stops e) (broken n v f) = absurd (n u)
one_position l bytes kind other at position (refused_at u left stops e) (refused_at w rest halts f) =
    let both : stops_at kind left ≡ stops_at other rest = sym stops ∙ halts in
    let here : left ≡ rest = cc in
    ((let both : stops_at kind left ≡ stops_at other rest = sym stops ∙ halts in cc), e ∙ ap (λ (k : ℕ). length bytes - k) here ∙ sym f)

same_fault : (f g : TextFault) → f.kind ≡ g.kind → f.line ≡ g.line → f.column ≡ g.column → f ≡ g
same_fault f g kind line column =
    ap (λ (x : TextKind). let t : TextFault = record { kind = x; line = f.line; column = f.column } in t) kind ∙ ap (λ (x : ℕ). let t : TextFault = record { kind = g.kind; line = x; column = f.column } in t) line ∙ ap (λ (x : ℕ). let t : TextFault = record { kind = g.kind; line = g.line; column = x } in t) column

pub one_text_fault : (l : Language) (bytes : List ℕ) (f g : TextFault) → IsTextFault l bytes f → IsTextFault l bytes g → f ≡ g
one_text_fault l bytes f g h k =
    let one = one_position l bytes f.kind g.kind h.at k.at (fault_is l bytes f.kind h.at h.first) (fault_is l bytes g.kind k.at k.first) in
    same_fault f g one.0 (h.line ∙ ap (line_at bytes) one.1 ∙ sym k.line) (h.column ∙ ap (column_at bytes) one.1 ∙ sym k.column)
