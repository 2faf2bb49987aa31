-- The first fault of bytes that are no text.
use Rattle.std.proofs.Common.{◌≡◌, ◌-◌, ℕ, List, length, refl, subst, sym}
use Rattle.std.specs.Str.{IsUtf8}
use Rattle.term_model.specs.Books.{Book}
use Rattle.contract_grammar.specs.Tokens.{tokens}
use Rattle.contract_parse.specs.Cursors.{IsNoUtf8, fault_at, fault_of}
use Rattle.contract_grammar.specs.Names.{nothing_declared}
use Rattle.contract_parse.specs.Expecting.{Fails, Stops, run, text_expected}
use Rattle.contract_parse.specs.TextFaults.{FirstFault, IsFault, no_utf8, refused}
use Rattle.contract_grammar.specs.Texts.{Text}
use Rattle.contract_grammar.specs.declared.faults.TextKind.{TextKind}
use Rattle.contract_grammar.specs.declared.faults.TextKind.TheVariants.{Utf8}
use Rattle.contract_grammar.specs.declared.faults.TextFault.{TextFault}
use Rattle.contract_parse.specs.declared.faults.ParseErr.{ParseErr}
use Rattle.contract_parse.specs.declared.faults.ParseErr.TheVariants as told
use Rattle.contract_parse.specs.declared.faults.PartErr.{PartErr}
use Rattle.contract_parse.specs.declared.faults.PartErr.TheVariants.{Refused, NoMemory}
use Rattle.contract_parse.proofs.TextFacts.{no_fault}

is_fault : (bytes : List ℕ) (kind : TextKind) (at : ℕ) (f : TextFault) → f ≡ fault_at bytes kind at → FirstFault bytes kind at → IsFault bytes f
is_fault bytes kind at f is first =
    let fault : IsFault bytes (fault_at bytes kind at) = record { at = at; first = first; line = refl; column = refl } in
    subst (λ (g : TextFault). IsFault bytes g) (sym is) fault

pub not_utf8 : (bytes : List ℕ) (f : TextFault) → IsNoUtf8 bytes f → IsFault bytes f × ((b : Book) → Text bytes b → ⊥)
not_utf8 bytes f bad = (is_fault bytes Utf8 bad.at f bad.is (no_utf8 bad.none bad.longest), λ b text. bad.none text.utf8)

pub not_text : (bytes : List ℕ) (kind : TextKind) (left at : ℕ) (f : TextFault) → f ≡ fault_at bytes kind at → at ≡ length bytes - left → IsUtf8 bytes → run nothing_declared text_expected (tokens bytes) ≡ Stops kind left → IsFault bytes f × ((b : Book) → Text bytes b → ⊥)
not_text bytes kind left at f is position utf8 stops =
    let first = subst (λ (n : ℕ). FirstFault bytes kind n) (sym position) (refused utf8 stops) in
    let fault = is_fault bytes kind at f is first in
    (fault, λ b text. no_fault bytes b f text fault)

-- what is told of a text that was not read: it is none, or memory was wanting
pub tells : (P : ParseErr → Type 0) (bytes : List ℕ) (e : PartErr) (answer : ParseErr) → ((f : TextFault) → IsFault bytes f × ((b : Book) → Text bytes b → ⊥) → P (told.Text f)) → P told.NoMemory
    → answer ≡ fault_of bytes e → IsUtf8 bytes → Fails e (run nothing_declared text_expected (tokens bytes)) → P answer
tells P bytes (Refused r) answer none memory is utf8 stops =
    let at = length bytes - r.left in
    subst P (sym is) (none (fault_at bytes r.kind at) (not_text bytes r.kind r.left at (fault_at bytes r.kind at) refl refl utf8 stops))
tells P bytes NoMemory answer none memory is utf8 stops = subst P (sym is) memory
