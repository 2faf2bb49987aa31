-- One contract more that is printed in version 2, and the whole text behind the last.
use Rattle.std.proofs.Common.{◌≡◌, ◌∙◌, ℕ, List, [], ◌∷◌, ◌++◌, ap, refl, subst, sym}
use Rattle.term_model.specs.declared.name.Name.{Name}
use Rattle.term_model.specs.Declarations.{Declarations}
use Rattle.term_model.specs.Terms.{Contract, contract}
use Rattle.contract_grammar.specs.Names.{declared_by}
use Rattle.contract_parse.specs.NextContracts.{IsNext}
use Rattle.contract_grammar.specs.Texts.{Text}
use Rattle.contract_parse.specs.declared.next_contracts.ContractReader.{ContractReader}
use Rattle.contract_parse.specs.declared.next_contracts.NextContract.{NextContract}
use Rattle.contract_print.specs.Canon.{AppendsBeginning, IsBeginning, IsCanon, contract_text}
use Rattle.contract_print.specs.Migrated.{in_version_two, migrated}
use Rattle.contract_grammar.specs.Writable.{IsWritableTerm}
use Rattle.contract_print.proofs.LineByLine.{begun_is_canon, one_more_canon}
use Rattle.contract_print.proofs.TermNumbers.{numbers_of_contract, spellable_written}
use Rattle.used_contracts.specs.ChoosingParts.{so_far}
use Rattle.command_courses.specs.Course.{Tells}
use Rattle.text_commands.specs.MigrateCourse.{migrate_of_text}
use Rattle.text_commands.specs.MigrateParts.{IsMigratedTo}
use Rattle.used_contracts.specs.ReadingParts.{IsBegun}
use Rattle.command_courses.specs.declared.status.Status.TheVariants as status

-- what tokens spell can be printed
pub next_writable : (text : List ℕ) (d : Declarations) (entries : List (Name × Contract)) (after : ContractReader) (one : NextContract) → IsNext text d entries after one
    → IsWritableTerm (contract one.contr)
next_writable text d entries after one next =
    spellable_written d (contract one.contr)
    (record {
      closed = next.sound.closed;
      numbers = numbers_of_contract (declared_by d []) [] (contract one.contr) _ _ next.spelled.spelled;
      shallow = next.sound.low;
    })

module _ (text : List ℕ) (d printed : Declarations) (two : printed ≡ in_version_two d) where
  -- before the first contract
  pub migrated_none : (reader : ContractReader) (old new : List ℕ) → IsBegun text d reader → old ≡ [] → AppendsBeginning printed old new → IsMigratedTo text d reader new
  migrated_none reader old new begun none begins =
      let is : new ≡ begins.text = begins.appended ∙ ap (λ (t : List ℕ). t ++ begins.text) none in
      let opens = subst (λ (x : Declarations). IsBeginning new x) two (subst (λ (t : List ℕ). IsBeginning t printed) (sym is) begins.is_beginning) in
      record { entries = []; read = begun; canon = begun_is_canon (in_version_two d) new opens }

  -- behind one more
  pub migrated_more : (reader after : ContractReader) (one : NextContract) (old new : List ℕ) (h : IsMigratedTo text d reader old) → IsNext text d h.entries after one
      → new ≡ old ++ contract_text (declared_by printed []) one.name.now (contract one.contr) → IsMigratedTo text d after new
  migrated_more reader after one old new h next appended =
      let entry : Name × Contract = (one.name.now, contract one.contr) in
      let line = appended ∙ ap (λ (x : Declarations). old ++ contract_text (declared_by x []) entry.0 entry.1) two in
      record {
        entries = h.entries ++ entry ∷ [];
        read = next.read;
        canon = subst (λ (t : List ℕ). IsCanon t (migrated (so_far d (h.entries ++ entry ∷ [])))) (sym line) (one_more_canon (in_version_two d) h.entries entry old h.canon);
      }

-- behind the last
pub migrated_all : (text : List ℕ) (d : Declarations) (reader : ContractReader) (out : List ℕ) (h : IsMigratedTo text d reader out) → Text text (so_far d h.entries)
    → Tells (migrate_of_text text) status.Done out
migrated_all text d reader out h whole = (so_far d h.entries, whole, (refl, h.canon))
