use Rattle.std.proofs.Common.{◌∙◌, inr, refl, sym}
use Rattle.csv.specs.Reading.{Reached, strip_bom}
use Rattle.fixing_files.proofs.reader.reader_of.Goals as goal

pub returns : goal.returns
unfolding Reached
returns c =
    let fr = c.from_reader.ensures in
    let e = c.flexible.ensures in
    let h = c.has_headers.ensures in
    record {
      rest = strip_bom c.args.text.now;
      untrimmed = rw (e, h) at fr.trim ∙ c.new.ensures.trim;
      ready = inr (inr (rw (e, h) at fr.has_headers, fr.headers));
      config = rw (e, h) at fr.config ∙ c.new.ensures.config;
      source = fr.source;
      reached = (sym fr.state, refl);
    }
