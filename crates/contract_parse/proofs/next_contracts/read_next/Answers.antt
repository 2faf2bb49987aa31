use Rattle.std.proofs.Common.{◌∙◌, ◌∷◌, ◌++◌, [], List, ap, arith, length, refl, subst, sym}
use Rattle.std.proofs.lemmas.Result.{err_from_is_err_and}
use Rattle.std.specs.Prelude.{codes}
use Rattle.std.specs.Map.{keys_of}
use Rattle.term_model.specs.Declarations.{declarations}
use Rattle.term_model.specs.Terms.{contract}
use Rattle.contract_grammar.specs.Tokens.{tokens}
use Rattle.contract_grammar.specs.Versions.{version_of}
use Rattle.contract_grammar.specs.Words.{Bytes}
use Rattle.contract_grammar.specs.Names.{declared_by}
use Rattle.contract_grammar.specs.Statements.{named_contract, none}
use Rattle.contract_parse.specs.Expecting.{TheEnd, contract_expected, expected_behind, run}
use Rattle.contract_parse.specs.Reading.{tokens_ahead}
use Rattle.contract_grammar.proofs.EntryFacts.{keys_added}
use Rattle.contract_parse.proofs.LineFacts.{line_absent, line_opens, new_absent}
use Rattle.contract_parse.proofs.NextFacts.{one_further, sound_contract}
use Rattle.contract_grammar.proofs.Parts.{followed_by}
use Rattle.contract_parse.proofs.next_contracts.read_next.Goals as goal

pub returns-in_ok-next-in-Some-clause-next : goal.returns-in_ok-next-in-Some-clause-next
returns-in_ok-next-in-Some-clause-next c = λ bytes entries so_far.
    let d = declarations c.args.decls.now in
    let v = version_of d.version in
    let name = c.in_ok-next-in-Some.next.name.now in
    let tree = contract c.in_ok-next-in-Some.next.contr in
    let old = c.args.reader.now in
    let behind = c.in-Some.after.now in
    let rest = tokens c.in_ok-next-in-Some.rest.now in
    let line = subst (λ (ns : List Bytes). named_contract (declared_by d []) ns name tree (tokens behind) rest) (sym so_far.named) c.in_ok-next-in-Some.ensures.reads.spelled in
    record {
      read = record {
        text = so_far.text;
        utf8 = so_far.utf8;
        short = so_far.short;
        within = omega (arith, c.in_ok-next-in-Some.ensures.shorter, ap length c.in-Some.ensures.after, c.look-reader.ensures.within, so_far.within);
        named = keys_added entries name tree ∙ ap (λ (ns : List Bytes). ns ++ name ∷ []) so_far.named ∙ sym c.in_ok-next-in-Some.ensures.added;
        follows =
            so_far.follows
            ∙ line_opens (declared_by d old.names.keys) (codes "contract") (expected_behind v) (contract_expected v (expected_behind v)) (TheEnd ∷ []) (λ t. refl) (tokens_ahead old.ahead) (tokens behind) c.in-Some.ensures.found
            ∙ c.in_ok-next-in-Some.ensures.reads.follows (expected_behind v)
            ∙ ap (run (declared_by d c.read_named.new.names.keys) (expected_behind v)) (sym c.look-reader.ensures.same);
        completed = λ all x. so_far.completed all (one_further d entries all name tree (tokens_ahead old.ahead) (tokens behind) (tokens_ahead c.look-reader.result) rest c.in-Some.ensures.found line c.look-reader.ensures.same x);
      };
      sound = sound_contract d (keys_of entries) name tree behind rest (omega (arith, ap length c.in-Some.ensures.after, so_far.within, so_far.short)) line;
      spelled = record { before = line.two.between; behind = line.two.two.between; spelled = line.two.two.one };
      new = new_absent (keys_of entries) name (tokens behind) line.between line.one;
    }

pub returns-in_err-next-in-Some-clause-next : goal.returns-in_err-next-in-Some-clause-next
returns-in_err-next-in-Some-clause-next c = λ bytes entries so_far.
    let p = err_from_is_err_and c.from_residual.result c.from_residual.ensures.1 in
    let d = declarations c.args.decls.now in
    let v = version_of d.version in
    let old = c.args.reader.now in
    let before =
    so_far.follows
    ∙ line_opens (declared_by d old.names.keys) (codes "contract") (expected_behind v) (contract_expected v (expected_behind v)) (TheEnd ∷ []) (λ t. refl) (tokens_ahead old.ahead) (tokens c.in-Some.after.now) c.in-Some.ensures.found in
    rw (p.1, p.2, before) (c.in_err-next-in-Some.ensures.reads.follows (expected_behind v))

pub returns-in_err-read_end-in-None-clause-next : goal.returns-in_err-read_end-in-None-clause-next
returns-in_err-read_end-in-None-clause-next c = λ bytes entries so_far.
    let p = err_from_is_err_and c.from_residual-in_err-read_end-in-None.result c.from_residual-in_err-read_end-in-None.ensures.1 in
    let d = declarations c.args.decls.now in
    let v = version_of d.version in
    let old = c.args.reader.now in
    let before =
    so_far.follows
    ∙ line_absent (declared_by d old.names.keys) (codes "contract") (expected_behind v) (contract_expected v (expected_behind v)) (TheEnd ∷ []) (λ t. refl) (tokens_ahead old.ahead) c.in-None.ensures.lacks in
    rw (p.1, p.2, before) (c.in_err-read_end-in-None.ensures.follows (declared_by d old.names.keys) [])

pub returns-in_ok-read_end-in-None-clause-next : goal.returns-in_ok-read_end-in-None-clause-next
returns-in_ok-read_end-in-None-clause-next c = λ bytes entries so_far. record {
  utf8 = so_far.utf8;
  spelled = so_far.completed entries (followed_by (tokens_ahead c.args.reader.now.ahead) none c.in_ok-read_end-in-None.ensures.spelled);
}
