-- What follows for the calls from the equation with what is specialised.
use Rattle.std.proofs.Common.{◌≡◌, ◌-◌, Result, Ok, Err, IfOk, ℕ, ℤ, pos, Option, Some, [], refl, ap, ap₂, sym, subst, ◌∙◌}
use Rattle.term_model.specs.Declarations.{Declarations, declarations}
use Rattle.term_model.specs.declared.decls.Decls.{Decls}
use Rattle.term_core.specs.declared.shared.SharedContr.{SharedContr}
use Rattle.term_core.specs.declared.shared.SharedContr.TheVariants.{Zero as Zero', Pay as Pay', Both', Scale', After', Let', Within'}
use Rattle.term_model.specs.Terms.{Expression, Contract}
use Rattle.term_model.specs.Environments.{Environment, IsAdmitted}
use Rattle.decimal.specs.Rounding.{raised}
use Rattle.term_core.specs.SharedTerms.{shared, MovesNothing, HasOffsetsIn, StoresOffsets}
use Rattle.term_core.proofs.SharedFacts.{stores_offsets, formed_offsets_in}
use Rattle.term_model.specs.WellFormed.{IsClosed, HasOnlyNumbers}
use Rattle.term_model.specs.Acceptance.{IsAccepted}
use Rattle.interval_check.proofs.GuaranteeFacts.{accepted_meet_rules, parts_meet_rules}
use Rattle.specialise.specs.Specialising.{specialised, specialised_in}
use Rattle.specialise.specs.Specialisable.{IsPartOfAccepted}
use Rattle.rewriting.specs.Keeping.{IsNoLarger, IsNoLargerIn}
use Rattle.specialise.specs.Specialised.{StaysFormed, HasItsKind, HasItsValue, ReadsNoMore, HasNoTold, PaysTheSameOn, ReadsNoMoreOn, HasNoToldIn}
use Rattle.specialise.specs.Specialised.{Specialises, SpecialisesOn, StandsAlone}
use Rattle.term_model.specs.Literals.{HasLiteralsIn}
use Rattle.specialise.proofs.SpecialValues.{special_kind, special_value}
use Rattle.specialise.proofs.SpecialReads.{special_reads}
use Rattle.specialise.proofs.SpecialSizes.{special_smaller}
use Rattle.specialise.proofs.SpecialContracts.{contract_scale, contract_flow, contract_reads, contract_smaller}
use Rattle.specialise.proofs.SpecialRedexes.{none_told, special_leaves_none}
use Rattle.specialise.proofs.SpecialForms.{special_formed, contract_formed}
use Rattle.specialise.proofs.AcceptedFacts.{special_accepted}
use Rattle.specialise.proofs.LiteralFacts.{literals_stay}

-- expressions

pub formed_kept_of : (d : Declarations) (F : Environment) (o : Option ℤ) (r e : Expression) → r ≡ specialised d F o e → StaysFormed d r e
formed_kept_of d F o r e h = subst (λ (x : Expression). StaysFormed d x e) (sym h) (λ names w. special_formed d F o e names w)

pub kind_kept : (d : Declarations) (F : Environment) (o : Option ℤ) (r e : Expression) → r ≡ specialised d F o e → HasItsKind d r e
kind_kept d F o r e h = subst (λ (x : Expression). HasItsKind d x e) (sym h) (λ ks. special_kind d F o e ks)

pub value_kept : (d : Declarations) (F : Environment) (o : Option ℤ) (r e : Expression) → r ≡ specialised d F o e → HasItsValue d F o r e
value_kept d F o r e h = subst (λ (x : Expression). HasItsValue d F o x e) (sym h) (λ g env f m i. special_value d F o e g env f m i)

pub reads_kept : (d : Declarations) (F : Environment) (o : Option ℤ) (r e : Expression) → r ≡ specialised d F o e → ReadsNoMore d F o r e
reads_kept d F o r e h = subst (λ (x : Expression). ReadsNoMore d F o x e) (sym h) (λ g bs cs env f m i n. special_reads d F o e g bs cs env f m i n)

pub none_kept : (d : Declarations) (F : Environment) (o : Option ℤ) (r e : Expression) → r ≡ specialised d F o e → IsAdmitted d F → IsPartOfAccepted d e → HasNoTold d F o r
none_kept d F o r e h admitted p =
    let rules = parts_meet_rules d e p.ranges p.contract [] p.stands (accepted_meet_rules d p.contract p.accepted) in
    subst (λ (x : Expression). HasNoTold d F o x) (sym h) (λ kind told. none_told d F kind told admitted o e p.ranges rules.sorts)

pub smaller_kept : (d : Declarations) (F : Environment) (o : Option ℤ) (r e : Expression) → r ≡ specialised d F o e → IsNoLarger r e
smaller_kept d F o r e h = subst (λ (x : Expression). IsNoLarger x e) (sym h) (special_smaller d F o e)

-- what stands for an expression
pub stands_for : (d : Declarations) (F : Environment) (o : Option ℤ) (r e : Expression) → r ≡ specialised d F o e
    → IsAdmitted d F → IsPartOfAccepted d e → Specialises d F o r e
stands_for d F o r e h admitted p =
    record {
      exact = h;
      formed = formed_kept_of d F o r e h;
      kind = kind_kept d F o r e h;
      value = value_kept d F o r e h;
      reads = reads_kept d F o r e h;
      none = none_kept d F o r e h admitted p;
      smaller = smaller_kept d F o r e h;
    }

-- contracts

pub accepted_kept : (decls : Decls) (F : Environment) (f : ℤ) (r c : Contract) → r ≡ specialised_in (declarations decls) F (Some f) c → IsAdmitted (declarations decls) F → IsAccepted (declarations decls) c → IsAccepted (declarations decls) r
accepted_kept decls F f r c h admitted a =
    let d = declarations decls in
    subst (λ (x : Contract). IsAccepted d x) (sym h) (special_accepted d c F (Some f) decls.labels_in admitted a)

pub flows_kept : (d : Declarations) (F : Environment) (f : ℤ) (r c : Contract) → r ≡ specialised_in d F (Some f) c → PaysTheSameOn d F f r c
flows_kept d F f r c h = subst (λ (x : Contract). PaysTheSameOn d F f x c) (sym h) (λ env n w m.
    ap₂ (λ (s : ℕ) (x : ℤ). raised x (d.amounts - s)) (contract_scale d F (Some f) c []) (contract_flow d F (Some f) c [] env f n w m refl))

pub reads_kept_in : (d : Declarations) (F : Environment) (f : ℤ) (r c : Contract) → r ≡ specialised_in d F (Some f) c → ReadsNoMoreOn d F f r c
reads_kept_in d F f r c h =
    subst (λ (x : Contract). ReadsNoMoreOn d F f x c) (sym h) (λ env b m. contract_reads d F (Some f) c [] [] [] env f (pos 0) (pos b) m refl (λ k q p. p))

pub none_kept_in : (d : Declarations) (F : Environment) (f : ℤ) (r c : Contract) → r ≡ specialised_in d F (Some f) c → IsAdmitted d F → IsAccepted d c → HasNoToldIn d F f r
none_kept_in d F f r c h admitted a =
    subst (λ (x : Contract). HasNoToldIn d F f x) (sym h) (λ kind told. special_leaves_none d c F (Some f) kind told admitted a.sorts)

pub smaller_kept_in : (d : Declarations) (F : Environment) (f : ℤ) (r c : Contract) → r ≡ specialised_in d F (Some f) c → IsNoLargerIn r c
smaller_kept_in d F f r c h = subst (λ (x : Contract). IsNoLargerIn x c) (sym h) (contract_smaller d F (Some f) c)

pub literals_kept_in : (decls : Decls) (F : Environment) (f : ℤ) (r c : Contract) → r ≡ specialised_in (declarations decls) F (Some f) c → IsAdmitted (declarations decls) F → IsAccepted (declarations decls) c → HasLiteralsIn c → HasLiteralsIn r
literals_kept_in decls F f r c h admitted a l =
    let d = declarations decls in
    subst (λ (x : Contract). HasLiteralsIn x) (sym h) (literals_stay d F (Some f) c (special_accepted d c F (Some f) decls.labels_in admitted a) l)

pub formed_kept : (d : Declarations) (F : Environment) (f : ℤ) (r c : Contract) → r ≡ specialised_in d F (Some f) c → IsClosed d c → HasOnlyNumbers c → IsClosed d r × HasOnlyNumbers r
formed_kept d F f r c h k n =
    subst (λ (x : Contract). IsClosed d x × HasOnlyNumbers x) (sym h) (contract_formed d F (Some f) c 0 k n)

pub shared_numbers : (s : SharedContr) → HasOnlyNumbers (shared s)
shared_numbers Zero' = tt
shared_numbers (Pay' x p q) = tt
shared_numbers (Both' p a q b) = (shared_numbers a, shared_numbers b)
shared_numbers (Scale' e k q c) = shared_numbers c
shared_numbers (After' n p c) = (tt, shared_numbers c)
shared_numbers (Let' e k q c) = shared_numbers c
shared_numbers (Within' e n q a r b) = (tt, shared_numbers a, shared_numbers b)

-- what takes the place of a contract
pub takes_place : (decls : Decls) (F : Environment) (f : ℤ) (r c : Contract) → r ≡ specialised_in (declarations decls) F (Some f) c
    → IsAdmitted (declarations decls) F → IsAccepted (declarations decls) c → HasOnlyNumbers c
    → SpecialisesOn (declarations decls) F f r c
takes_place decls F f r c h admitted a n =
    let d = declarations decls in
    record {
      exact = h;
      accepted = accepted_kept decls F f r c h admitted a;
      flows = flows_kept d F f r c h;
      reads = reads_kept_in d F f r c h;
      none = none_kept_in d F f r c h admitted a;
      smaller = smaller_kept_in d F f r c h;
      closed = λ k. (formed_kept d F f r c h k n).0;
      literals = λ l. literals_kept_in decls F f r c h admitted a l;
    }

-- and stands alone, as the contract does
pub stands_alone : (decls : Decls) (F : Environment) (f : ℤ) (r c : Contract) → r ≡ specialised_in (declarations decls) F (Some f) c
    → IsAdmitted (declarations decls) F → StandsAlone (declarations decls) c → StandsAlone (declarations decls) r
stands_alone decls F f r c h admitted alone =
    let formed = formed_kept (declarations decls) F f r c h alone.1 alone.2 in
    (accepted_kept decls F f r c h admitted alone.0, formed.0, formed.1)

-- what is shared of a closed contract has its offsets within their limit
pub offsets_shared : (d : Declarations) (s : SharedContr) (c : Contract) → shared s ≡ c → MovesNothing s → IsClosed d c → StoresOffsets s
offsets_shared d s c h m k = stores_offsets s m (formed_offsets_in d 0 (shared s) (subst (λ (x : Contract). IsClosed d x) (sym h) k))

pub offsets_special : (d : Declarations) (F : Environment) (o : Option ℤ) (s r : SharedContr) (c : Contract) → shared r ≡ specialised_in d F o (shared s) → shared s ≡ c → IsClosed d c → HasOnlyNumbers c → HasOffsetsIn (shared r)
offsets_special d F o s r c h i k n =
    let formed = contract_formed d F o c 0 k n in
    formed_offsets_in d 0 (shared r) (subst (λ (x : Contract). IsClosed d x) (sym (h ∙ ap (λ (x : Contract). specialised_in d F o x) i)) formed.0)

-- what is asked where a contract is shared and copied back
pub ruleset for_shared = (offsets_shared, offsets_special)

-- what is said of an answer says more of it
pub on_ok : {A E : Type 0} (P Q : A → Type 0) (r : Result A E) → ((x : A) → P x → Q x) → IfOk r P → IfOk r Q
on_ok P Q (Ok x) f h = f x h
on_ok P Q (Err e) f h = h
