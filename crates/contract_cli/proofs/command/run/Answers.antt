use Rattle.contract_cli.specs.RunPromise.{written, broken}
use Rattle.std.proofs.Common.{refl}
use Rattle.contract_cli.proofs.HeadlineFacts.{headline}
use Rattle.contract_cli.proofs.command.run.Goals as goal

pub returns-in-Ok-write_whole-clause-meets : goal.returns-in-Ok-write_whole-clause-meets
returns-in-Ok-write_whole-clause-meets g c = written c.in-Ok.answer.text.items c.in-Ok.ensures.answer (rw c.deref.ensures.value at c.in-Ok-write_whole.ensures.whole)

pub returns-clause-meets : goal.returns-clause-meets
returns-clause-meets g c = broken refl c.in-Ok.answer.status c.in-Ok.answer.text.items c.in-Ok.ensures.answer (rw c.deref.ensures.value at c.in-Err-write_whole.ensures.whole)

pub returns-in-Ok-write_whole-clause-headline : goal.returns-in-Ok-write_whole-clause-headline
returns-in-Ok-write_whole-clause-headline g c =
    headline _ _ _ (written c.in-Ok.answer.text.items c.in-Ok.ensures.answer (rw c.deref.ensures.value at c.in-Ok-write_whole.ensures.whole))
