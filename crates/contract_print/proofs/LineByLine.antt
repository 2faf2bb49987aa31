-- A portfolio's canonical text, made line by line: what stands before the contracts, and behind it the line of each.
use Rattle.std.proofs.Common.{◌≡◌, ◌∙◌, List, [], ◌∷◌, ◌++◌, ap, sym, append_assoc, append-nil}
use Rattle.std.proofs.lemmas.List.{flat_map_more}
use Rattle.term_model.specs.Books.{Book}
use Rattle.term_model.specs.Declarations.{Declarations}
use Rattle.term_model.specs.Terms.{Contract}
use Rattle.term_model.specs.declared.name.Name.{Name}
use Rattle.contract_grammar.specs.Words.{Bytes}
use Rattle.contract_grammar.specs.Names.{declared_by}
use Rattle.contract_print.specs.Canon.{IsBeginning, IsCanon, beginning_text, book_contracts_text, book_text, contract_text, decls_text, header_text}

-- what stands before the contracts, and then the contracts
pub whole_book : (date : Bytes) (b : Book) → beginning_text date b.declarations ++ book_contracts_text b ≡ book_text date b
whole_book date b = append_assoc (header_text b.declarations.version) (decls_text date b.declarations) (book_contracts_text b)

-- without contracts nothing stands behind the beginning
pub begun_is_canon : (d : Declarations) (text : Bytes) → IsBeginning text d → IsCanon text (record { declarations = d; contracts = [] })
begun_is_canon d text begun =
    let b : Book = record { declarations = d; contracts = [] } in
    record {
      date = begun.date;
      is_date = begun.is_date;
      is = begun.is ∙ sym (append-nil (beginning_text begun.date d)) ∙ whole_book begun.date b;
    }

-- a portfolio with one more contract has one more line
pub one_more_canon : (d : Declarations) (cs : List (Name × Contract)) (entry : Name × Contract) (text : Bytes) → IsCanon text (record { declarations = d; contracts = cs }) → IsCanon (text ++ contract_text (declared_by d []) entry.0 entry.1) (record { declarations = d; contracts = cs ++ entry ∷ [] })
one_more_canon d cs entry text canon =
    let line = λ (e : Name × Contract). contract_text (declared_by d []) e.0 e.1 in
    let beginning = beginning_text canon.date d in
    let before : Book = record { declarations = d; contracts = cs } in
    let after : Book = record { declarations = d; contracts = cs ++ entry ∷ [] } in
    record {
      date = canon.date;
      is_date = canon.is_date;
      is = ap (λ (start : Bytes). start ++ line entry) (canon.is ∙ sym (whole_book canon.date before)) ∙ flat_map_more line beginning cs entry ∙ whole_book canon.date after;
    }
