-- A contract that is read next: its name, that it may be tried, and that it goes on from what has been read.
use Rattle.std.proofs.Common.{◌≡◌, ◌≤◌, ◌∙◌, ◌∷◌, ◌++◌, ℕ, [], List, Bool, true, false, cond, Ok, Err, ap, arith, length, refl, subst, sym, take}
use Rattle.std.specs.Prelude.{codes}
use Rattle.std.specs.Str.{bytes_eq}
use Rattle.indexmap.specs.IndexSet.{insert_key}
use Rattle.std.specs.Map.{keys_of}
use Rattle.term_model.specs.Declarations.{Declarations}
use Rattle.term_model.specs.Sizes.{nodes_of_contract}
use Rattle.term_model.specs.Terms.{Contract}
use Rattle.contract_grammar.specs.Tokens.{Tok, tokens}
use Rattle.contract_grammar.specs.Words.{Bytes, is_name}
use Rattle.contract_grammar.specs.Versions.{version_of}
use Rattle.contract_grammar.specs.Names.{declared_by, is_declared}
use Rattle.contract_grammar.specs.Judgements.{new_at}
use Rattle.contract_grammar.specs.Spelling.{valued, word}
use Rattle.contract_grammar.specs.Statements.{Entry, contract_line, more, named_contract}
use Rattle.contract_parse.specs.NextContracts.{IsSoundContract, further_contracts}
use Rattle.contract_grammar.specs.declared.faults.TextKind.TheVariants.{Syntax, Twice}
use Rattle.contract_grammar.proofs.Parts.{followed_by}
use Rattle.contract_grammar.proofs.TextClosed.{closed_contract, counts_are, small_sums}
use Rattle.contract_grammar.proofs.TextSizes.{named_least}
use Rattle.contract_grammar.proofs.Weights.{contr_least, weight_tokens}

-- ---- the name

text_is : (is there : Bool) (text name : Bytes) → cond is (cond there (Err Twice) (Ok text)) (Err Syntax) ≡ Ok name → text ≡ name
text_is true true text name e = absurd cc
text_is true false text name e = cc
text_is false there text name e = absurd cc

-- the name that is declared is the text of the token that comes next
pub new_name_is : (names : List Bytes) (name : Bytes) (t : Tok) (ts others rest : List Tok) → ts ≡ t ∷ others → valued (new_at names) name ts rest → name ≡ t.text
new_name_is names name t ts others rest starts (u, is, passes) =
    let both : t ∷ others ≡ u ∷ rest = sym starts ∙ is in
    let same : t ≡ u = cc in
    sym (ap (λ (x : Tok). x.text) same ∙ text_is (is_name u) (is_declared names u.text) u.text name passes)

-- ---- the contract

pub sound_contract : (d : Declarations) (before : List Bytes) (name : Bytes) (c : Contract) (bytes : List ℕ) (rest : List Tok)
    → length bytes ≤ 16_777_216 → named_contract (declared_by d []) before name c (tokens bytes) rest → IsSoundContract d c
sound_contract d before name c bytes rest short x =
    let y = x.two.two in
    let least = named_least (nodes_of_contract c) (declared_by d []) before name c (contr_least (declared_by d []) [] c) in
    record {
      closed = closed_contract d c [] [] _ _ y.one;
      low = y.two.one.1;
      small = omega (arith, short, weight_tokens bytes, least.least (tokens bytes) rest x);
      sums = small_sums (version_of d.version) c (counts_are (declared_by d []) [] c _ _ y.one);
    }

-- ---- the lines

-- what follows a contract that is read next completes what has been read before it
pub one_further : (d : Declarations) (entries all : List (Bytes × Contract)) (name : Bytes) (c : Contract) (ts behind now rest : List Tok)
    → word (codes "contract") ts behind → named_contract (declared_by d []) (keys_of entries) name c behind rest → now ≡ rest
    → further_contracts d (entries ++ (name, c) ∷ []) all now [] → further_contracts d entries all ts []
one_further d entries all name c ts behind now rest opens line same x =
    let first : Entry (contract_line (declared_by d [])) entries (entries ++ (name, c) ∷ []) ts rest =
    record { name = name; value = c; is = refl; spelled = followed_by behind opens line } in
    let here = subst (λ (l : List Tok). further_contracts d (entries ++ (name, c) ∷ []) all l []) same x in
    followed_by here.between (more first here.one) here.two

-- ---- names that stay

pub inserted_again : (names : List Bytes) (name : Bytes) → true ≡ is_declared names name → insert_key bytes_eq names name ≡ names
inserted_again names name present = ap (λ b. cond b names (names ++ name ∷ [])) (sym present)

pub all_before : (names others : List Bytes) → take (length names) (names ++ others) ≡ names
all_before [] others = refl
all_before (name ∷ names) others = ap (λ (ns : List Bytes). name ∷ ns) (all_before names others)
