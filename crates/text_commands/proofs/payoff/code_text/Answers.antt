use Rattle.std.proofs.Common.{ℕ, ap, subst, sym}
use Rattle.std.specs.Prelude.{IfOk}
use Rattle.std.specs.Global.{Vec}
use Rattle.payoff_terms.specs.Code.{PayoffCode}
use Rattle.payoff_terms.specs.CodeBooks.{CodeBook}
use Rattle.payoff_lang.specs.CodeCanon.{IsCanonOfCode}
use Rattle.payoff_terms.specs.WritableCode.{IsWritableCode}
use Rattle.text_commands.proofs.payoff.code_text.Goals as goal

pub file_text-requires-clause-version : goal.file_text-requires-clause-version
file_text-requires-clause-version c = ap (λ (f : CodeBook). f.declarations.version) c.in_ok-file.ensures

pub file_text-requires-clause-writable : goal.file_text-requires-clause-writable
file_text-requires-clause-writable c =
    subst (λ (k : PayoffCode). IsWritableCode k) (sym (ap (λ (f : CodeBook). f.code) c.in_ok-file.ensures)) c.requires

pub returns : goal.returns
returns c =
    subst (λ (f : CodeBook). IfOk c.file_text.result (λ (text : Vec ℕ). IsCanonOfCode text.items f)) c.in_ok-file.ensures c.file_text.ensures
