use Rattle.std.proofs.Common.{◌∙◌, ℕ, Bor, ap, refl, sym}
use Rattle.std.specs.Prelude.{Option, option_map}
use Rattle.clap.specs.Words.{Text, first_value, found_of}
use Rattle.clap.specs.Walk.{texts}
use Rattle.command_words.specs.Arguments.{given_text, read_rows}
use Rattle.command_words.specs.Words.{requested_by, sample_app, sample_from, sample_of}
use Rattle.command_words.specs.declared.sample_size.SampleSize.{SampleSize}
use Rattle.command_words.proofs.WordFacts.{handed_on, lacks, reads, refused, sample_lacks, sample_reads}
use Rattle.command_words.proofs.words.sample_of.Goals as goal

abbrev sizes : Option SampleSize → Option ℕ
sizes size = option_map (λ (s : SampleSize). s.contracts) size

pub returns-in_err-matches : goal.returns-in_err-matches
returns-in_err-matches c =
    let words = texts c.args.words.now in
    let e = c.in_err-matches.field-0.0 in
    handed_on requested_by (sample_of words) e c.from_residual.result
    (refused requested_by (read_rows sample_from) sample_app words e refl c.in_err-matches.ensures) c.from_residual.ensures.1

pub returns-in_err-number : goal.returns-in_err-number
returns-in_err-number c =
    let words = texts c.args.words.now in
    let found = first_value (found_of c.in_ok-matches.matches) in
    let same = reads sample_app sample_from words c.in_ok-matches.matches c.in_ok-matches.ensures in
    let e = c.in_err-number.field-0.0 in
    handed_on requested_by (sample_of words) e c.from_residual-in_err-number.result
    (lacks (λ (word : Bor Text). word.now) (given_text c.get_str.result) requested_by (sample_of words) e
    (λ none. same ∙ sample_lacks found (sym c.get_str.ensures ∙ none)) c.in_err-number.ensures) c.from_residual-in_err-number.ensures.1

pub returns-in-Some : goal.returns-in-Some
returns-in-Some c =
    let words = texts c.args.words.now in
    let found = first_value (found_of c.in_ok-matches.matches) in
    reads sample_app sample_from words c.in_ok-matches.matches c.in_ok-matches.ensures
    ∙ sample_reads found c.in_ok-number.number.now _ (sym c.get_str.ensures ∙ c.in_ok-number.ensures) (sym c.read.ensures ∙ ap sizes c.in-Some.is)

pub returns : goal.returns
returns c =
    let words = texts c.args.words.now in
    let found = first_value (found_of c.in_ok-matches.matches) in
    reads sample_app sample_from words c.in_ok-matches.matches c.in_ok-matches.ensures
    ∙ sample_reads found c.in_ok-number.number.now _ (sym c.get_str.ensures ∙ c.in_ok-number.ensures) (sym c.read.ensures ∙ ap sizes c.in-None.is)
