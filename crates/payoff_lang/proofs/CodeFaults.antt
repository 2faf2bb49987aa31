-- The first fault of bytes that are no text of a code file, and that a text of one has none.
use Rattle.std.proofs.Common.{◌≡◌, ◌-◌, ℕ, Bool, false, List, ◌∷◌, length, cond, refl, subst, sym, ap, ◌∙◌}
use Rattle.std.specs.Str.{IsUtf8}
use Rattle.contract_grammar.specs.Tokens.{Tok, tokens}
use Rattle.contract_grammar.specs.Words.{Bytes, is_the_word}
use Rattle.contract_parse.specs.Cursors.{IsNoUtf8, fault_at}
use Rattle.contract_grammar.specs.Names.{DeclaredNames, nothing_declared}
use Rattle.contract_parse.specs.Expecting.{Next, Expected, Refuse, Stops, TheWord, code_text_expected, run}
use Rattle.contract_parse.specs.Reading.{Lacks}
use Rattle.contract_parse.specs.TextFaults.{FirstTextFault, no_utf8, refused}
use Rattle.contract_grammar.specs.declared.terms.Language.{Language}
use Rattle.contract_grammar.specs.declared.faults.TextKind.{TextKind}
use Rattle.contract_grammar.specs.declared.faults.TextKind.TheVariants.{Syntax, Utf8}
use Rattle.contract_grammar.specs.declared.faults.TextFault.{TextFault}
use Rattle.contract_parse.proofs.OneToken.{tail_same}
use Rattle.contract_parse.proofs.Steps.{run-refuse}
use Rattle.payoff_terms.specs.CodeBooks.{CodeBook}
use Rattle.payoff_lang.specs.CodeFiles.{CodeText}
use Rattle.payoff_lang.specs.CodeAnswers.{IsCodeFault}
use Rattle.payoff_lang.proofs.CodeTaken.{file_taken}

-- another word than the one that is to stand here
pub word_refused : (s : DeclaredNames) (w : Bytes) (ps : List Expected) (t : Tok) (ts : List Tok) → Lacks w (t ∷ ts) → run s (TheWord w ∷ ps) (t ∷ ts) ≡ Stops Syntax t.left
word_refused s w ps t ts lacks =
    let other : is_the_word w t ≡ false = ap (λ (u : Tok). is_the_word w u) (tail_same t lacks.first (t ∷ ts) ts lacks.after refl lacks.is).0 ∙ lacks.other in
    run-refuse s (TheWord w ∷ ps) Syntax t ts (ap (λ (b : Bool). cond b (Next s ps) (Refuse Syntax)) other)

no_first_fault : (bytes : List ℕ) (b : CodeBook) (kind : TextKind) (at : ℕ) → CodeText bytes b → FirstTextFault Language.Code bytes kind at → ⊥
no_first_fault bytes b kind at text (no_utf8 not_utf8 valid) = not_utf8 text.utf8
no_first_fault bytes b kind at text (refused utf8 stops) = let taken = file_taken bytes b text in absurd cc

pub no_code_fault : (bytes : List ℕ) (b : CodeBook) (f : TextFault) → CodeText bytes b → IsCodeFault bytes f → ⊥
no_code_fault bytes b f text fault = no_first_fault bytes b f.kind fault.at text fault.first

is_fault : (bytes : List ℕ) (kind : TextKind) (at : ℕ) (f : TextFault) → f ≡ fault_at bytes kind at → FirstTextFault Language.Code bytes kind at → IsCodeFault bytes f
is_fault bytes kind at f is first =
    let fault : IsCodeFault bytes (fault_at bytes kind at) = record { at = at; first = first; line = refl; column = refl } in
    subst (λ (g : TextFault). IsCodeFault bytes g) (sym is) fault

pub not_code_utf8 : (bytes : List ℕ) (f : TextFault) → IsNoUtf8 bytes f → IsCodeFault bytes f × ((b : CodeBook) → CodeText bytes b → ⊥)
not_code_utf8 bytes f bad = (is_fault bytes Utf8 bad.at f bad.is (no_utf8 bad.none bad.longest), λ b text. bad.none text.utf8)

pub not_code : (bytes : List ℕ) (kind : TextKind) (left at : ℕ) (f : TextFault) → f ≡ fault_at bytes kind at → at ≡ length bytes - left → IsUtf8 bytes → run nothing_declared code_text_expected (tokens bytes) ≡ Stops kind left
    → IsCodeFault bytes f × ((b : CodeBook) → CodeText bytes b → ⊥)
not_code bytes kind left at f is position utf8 stops =
    let first = subst (λ (n : ℕ). FirstTextFault Language.Code bytes kind n) (sym position) (refused utf8 stops) in
    let fault = is_fault bytes kind at f is first in
    (fault, λ b text. no_code_fault bytes b f text fault)
