use Rattle.fixing_files.proofs.WordFacts.{prefix_found}
use Rattle.fixing_files.proofs.words.behind_word.Goals as goal

pub returns : goal.returns
returns c = prefix_found c.strip_prefix.result c.args.word.now c.args.text.now c.strip_prefix.ensures.cases
