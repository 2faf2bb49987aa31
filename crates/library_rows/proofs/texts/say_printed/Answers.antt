use Rattle.term_model.specs.Books.{book}
use Rattle.library_rows.proofs.texts.say_printed.Goals as goal

pub say_portfolio-requires : goal.say_portfolio-requires
say_portfolio-requires c = c.texts_are_writable.ensures c.args.text.now (book c.in-Ok.portfolio) c.in-Ok.ensures
