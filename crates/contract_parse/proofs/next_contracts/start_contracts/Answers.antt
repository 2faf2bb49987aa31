use Rattle.std.proofs.Common.{◌≡◌, ◌∙◌, [], List, Err, ap, refl, sym}
use Rattle.contract_grammar.specs.Words.{Bytes}
use Rattle.contract_grammar.specs.Versions.{version_of}
use Rattle.contract_parse.specs.Expecting.{expected_behind, run}
use Rattle.contract_parse.specs.Reading.{declared_in, tokens_ahead}
use Rattle.contract_parse.specs.NextContracts.{StartsContracts}
use Rattle.contract_parse.specs.declared.faults.ParseErr.{ParseErr}
use Rattle.contract_parse.proofs.FaultFacts.{not_utf8, tells}
use Rattle.contract_grammar.proofs.Parts.{four_then}
use Rattle.contract_parse.proofs.next_contracts.start_contracts.Goals as goal

pub returns-in-Err : goal.returns-in-Err
returns-in-Err c = not_utf8 c.args.bytes.now c.in-Err.fault c.in-Err.ensures.refused

pub returns-in-Ok : goal.returns-in-Ok
returns-in-Ok c =
    let decls = c.in-Ok.decls in
    let none : [] ≡ c.new-names.result.keys = sym c.new-names.ensures.empty in
    record {
      text = refl;
      utf8 = c.in_default.ensures.fits.utf8;
      short = c.requires;
      within = c.in-Ok.ensures.within;
      named = none;
      follows = c.in-Ok.ensures.follows ∙ ap (λ (ns : List Bytes). run (declared_in decls ns) (expected_behind (version_of decls.version)) (tokens_ahead c.in-Ok.ahead)) none;
      completed = λ all x. four_then (tokens_ahead c.in-Ok.ahead) c.in-Ok.ensures.spelled x;
    }

pub returns-in-Err-read_beginning : goal.returns-in-Err-read_beginning
returns-in-Err-read_beginning c =
    let bytes = c.args.bytes.now in
    tells (λ (e : ParseErr). StartsContracts bytes (Err e)) bytes c.in-Err-read_beginning.error c.fault_of.result (λ f none. none) tt c.fault_of.ensures c.in_default.ensures.fits.utf8 c.in-Err-read_beginning.ensures.follows
