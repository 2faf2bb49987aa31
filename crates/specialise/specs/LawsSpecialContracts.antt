-- The laws of the specialiser over contracts.
use Rattle.std.specs.Prelude.{ℤ, ◌≡◌, List, Option, Some}
use Rattle.term_model.specs.Declarations.{Declarations}
use Rattle.term_model.specs.declared.values.Kind.{Kind}
use Rattle.term_model.specs.declared.rules.Rule.TheVariants.{Sort}
use Rattle.term_model.specs.Terms.{Contract}
use Rattle.term_model.specs.Environments.{Environment, Place, IsAdmitted}
use Rattle.term_model.specs.Values.{Entry}
use Rattle.term_model.specs.Flows.{Flow, flow_of, scale_of_contract}
use Rattle.term_model.specs.Reads.{reads_of_contract}
use Rattle.term_model.specs.Residuals.{Carries}
use Rattle.term_model.specs.Redexes.{Redex, HasNone}
use Rattle.term_model.specs.Acceptance.{Meets}
use Rattle.rewriting.specs.Keeping.{AreAmong, IsNoLargerIn, NamesReadLess}
use Rattle.specialise.specs.Specialising.{specialised_in}
use Rattle.specialise.specs.Specialised.{IsOn, IsToldKind, MayCome}

abbrev pub ContractScales : Type 0
ContractScales =
    (d : Declarations) (fixings : Environment) (frame : Option ℤ) (c : Contract) (ks : List Kind)
    → scale_of_contract d (specialised_in d fixings frame c) ks ≡ scale_of_contract d c ks

abbrev pub ContractFlows : Type 0
ContractFlows =
    (d : Declarations) (fixings : Environment) (frame : Option ℤ) (c : Contract) (g : List Entry) (env : Environment) (f n : ℤ) (w : Flow)
    → MayCome d fixings env → IsOn frame f → flow_of d (specialised_in d fixings frame c) g env f n w ≡ flow_of d c g env f n w

abbrev pub ContractReads : Type 0
ContractReads =
    (d : Declarations) (fixings : Environment) (frame : Option ℤ) (c : Contract)
    (g : List Entry) (bs cs : List (List Place)) (env : Environment) (f a b : ℤ)
    → MayCome d fixings env → IsOn frame f → NamesReadLess bs cs
    → AreAmong (reads_of_contract d (specialised_in d fixings frame c) g bs env f a b) (reads_of_contract d c g cs env f a b)

abbrev pub ContractIsSmaller : Type 0
ContractIsSmaller =
    (d : Declarations) (fixings : Environment) (frame : Option ℤ) (c : Contract) → IsNoLargerIn (specialised_in d fixings frame c) c

-- so it carries the contract over no days
abbrev pub SpecialisedCarries : Type 0
SpecialisedCarries =
    (d : Declarations) (fixings : Environment) (c : Contract) (f : ℤ) → Carries d c f fixings 0 (specialised_in d fixings (Some f) c)

-- no observable that is fixed and no accumulator that is known stands in it
abbrev pub SpecialisedLeavesNone : Type 0
SpecialisedLeavesNone =
    (d : Declarations) (c : Contract) (fixings : Environment) (frame : Option ℤ) (kind : Redex)
    → IsToldKind kind → IsAdmitted d fixings → Meets d Sort c → HasNone d fixings frame kind (specialised_in d fixings frame c)
