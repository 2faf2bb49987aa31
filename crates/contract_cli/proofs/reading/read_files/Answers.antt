use Rattle.std.proofs.Common.{◌≡◌, ◌∙◌, ◌<◌, ◌+◌, ℕ, List, [], ◌∷◌, ◌++◌, Bor, length, take, drop, get_or, rules, ap, arith, subst, sym}
use Rattle.std.specs.Global.{Vec}
use Rattle.std.proofs.lemmas.List.{length-map, length-take, map-append}
use Rattle.clap.specs.Walk.{texts}
use Rattle.report.specs.declared.fault_lines.Fault.{Fault}
use Rattle.command_courses.specs.Inputs.{bytes_of}
use Rattle.command_courses.proofs.StopFacts.{handed_on}
use Rattle.contract_cli.specs.Reading.{FileFault, StopsReading, WereRead}
use Rattle.contract_cli.specs.Seen.{FilesSeen, WasRead, seen}
use Rattle.contract_cli.proofs.ReadFacts.{counts_more, fault_seen, other_name, seen_told, stops_behind, texts_more, texts_split, were_more}
use Rattle.contract_cli.proofs.reading.read_files.Goals as goal

abbrev none : Bor (List ℕ)
none = record { ref_ptr = (0, 0); now = [] }

place_is : (names : List (Bor (List ℕ))) (i : ℕ) → i < length names → i + 1 ≡ 1 + length (take i (texts names))
place_is names i lt =
    let short = length-map names (λ (word : Bor (List ℕ)). word.now) in
    let first = length-take i (texts names) in
    omega (arith, short, first)

stopped_at : (files : FilesSeen) (names : List (Bor (List ℕ))) (i : ℕ) (read : List (List ℕ)) (f : Fault) → i < length names → WereRead files.contents (take i (texts names)) read
    → FileFault files (get_or names i none).now (i + 1) f → StopsReading files (texts names) 1 f
stopped_at files names i read f lt h k =
    subst (λ (xs : List (List ℕ)). StopsReading files xs 1 f) (sym (texts_split names i none lt))
    (stops_behind files (take i (texts names)) read (get_or names i none).now (drop (i + 1) (texts names)) 1 f h
    (subst (λ (x : ℕ). FileFault files (get_or names i none).now x f) (place_is names i lt) k))

pub returns-in_err-bytes-clause-answer : goal.returns-in_err-bytes-clause-answer
returns-in_err-bytes-clause-answer g c =
    let contents = g.F.Files.contents c.args.files.now in
    let middle = g.F.Files.contents c.loop-i.files in
    let before = g.F.Files.faults c.args.files.now in
    let between = g.F.Files.faults c.loop-i.files in
    let after = g.F.Files.faults c.read_file.new.files in
    let names = c.args.names.now in
    let i = c.loop-i.i in
    let file = (get_or names i none).now in
    handed_on (λ (bytes : Vec ℕ). WasRead middle file bytes.items) (λ (inputs : Vec (Vec ℕ)). WereRead contents (texts names) (bytes_of inputs.items))
    (FileFault (seen middle between after) file (i + 1)) (StopsReading (seen contents before after) (texts names) 1)
    (λ f h. stopped_at (seen contents before after) names i (bytes_of c.loop-i.inputs.items) f c.loop-i-test.true c.loop-i.invariant.0
    (fault_seen contents middle before between after c.loop-i.invariant.2 file (i + 1) f (c.loop-i.invariant.3.later file) h))
    c.in_err-bytes.field-0.0 c.from_residual.result c.in_err-bytes.ensures.answer c.from_residual.ensures.1

pub returns-in_err-bytes-clause-counts : goal.returns-in_err-bytes-clause-counts
returns-in_err-bytes-clause-counts g c =
    counts_more (g.F.Files.contents c.args.files.now) (g.F.Files.contents c.loop-i.files) (g.F.Files.faults c.args.files.now) (g.F.Files.faults c.loop-i.files) (g.F.Files.faults c.read_file.new.files)
    c.loop-i.invariant.2 (texts c.args.names.now) (get_or c.args.names.now c.loop-i.i none).now (other_name c.args.names.now c.loop-i.i none c.loop-i-test.true) c.loop-i.invariant.3 c.read_file.ensures.counts

pub returns-in_err-push-clause-counts : goal.returns-in_err-push-clause-counts
returns-in_err-push-clause-counts g c =
    counts_more (g.F.Files.contents c.args.files.now) (g.F.Files.contents c.loop-i.files) (g.F.Files.faults c.args.files.now) (g.F.Files.faults c.loop-i.files) (g.F.Files.faults c.read_file.new.files)
    c.loop-i.invariant.2 (texts c.args.names.now) (get_or c.args.names.now c.loop-i.i none).now (other_name c.args.names.now c.loop-i.i none c.loop-i-test.true) c.loop-i.invariant.3 c.read_file.ensures.counts

pub loop-i-preserved : goal.loop-i-preserved
loop-i-preserved g c =
    let contents = g.F.Files.contents c.args.files.now in
    let middle = g.F.Files.contents c.loop-i.files in
    let before = g.F.Files.faults c.args.files.now in
    let between = g.F.Files.faults c.loop-i.files in
    let after = g.F.Files.faults c.read_file.new.files in
    let names = c.args.names.now in
    let i = c.loop-i.i in
    let file = (get_or names i none).now in
    let bytes = c.in_ok-bytes.bytes in
    let pushed : c.push.new.self.items ≡ c.loop-i.inputs.items ++ bytes ∷ [] = search rules in
    let w = seen_told contents middle before between after c.loop-i.invariant.2 file bytes.items c.in_ok-bytes.ensures.answer in
    let more = were_more contents (take i (texts names)) (bytes_of c.loop-i.inputs.items) file bytes.items c.loop-i.invariant.0 w in
    let read = bytes_of c.loop-i.inputs.items ++ bytes.items ∷ [] in
    let all = subst (λ (xs : List (List ℕ)). WereRead contents xs read) (sym (texts_more names i none c.loop-i-test.true)) more in (
      subst (λ (xs : List (List ℕ)). WereRead contents (take (i + 1) (texts names)) xs) (sym (ap bytes_of pushed ∙ map-append (λ (b : Vec ℕ). b.items) c.loop-i.inputs.items (bytes ∷ []))) all,
      c.loop-i.invariant.1,
      λ other. c.read_file.ensures.kept other ∙ c.loop-i.invariant.2 other,
      counts_more contents middle before between after c.loop-i.invariant.2 (texts names) file (other_name names i none c.loop-i-test.true) c.loop-i.invariant.3 c.read_file.ensures.counts,
    )
