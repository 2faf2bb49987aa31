-- Refusals: at most one, and none of an accepted contract.
use Rattle.std.proofs.Common.{refl}
use Rattle.term_model.specs.declared.rules.Rule.TheVariants.{Sort, Time, Scale, Size, Bound}
use Rattle.term_model.specs.Sites.{sites}
use Rattle.term_model.specs.Acceptance.{Passes, trial_of}
use Rattle.term_model.specs.LawsAcceptance.{RefusalsAreUnique, AcceptedAreNotRefused}
use Rattle.term_model.proofs.Trials.{FirstFault-unique, FirstFault-fails}

pub refusals_unique : RefusalsAreUnique
refusals_unique d c Sort Sort j k h i = (refl, FirstFault-unique (Passes d Sort) (sites (trial_of Sort) c) j k h i)
refusals_unique d c Sort Time j k h i = absurd (FirstFault-fails (Passes d Sort) (sites (trial_of Sort) c) j i.0 h)
refusals_unique d c Sort Scale j k h i = absurd (FirstFault-fails (Passes d Sort) (sites (trial_of Sort) c) j i.0 h)
refusals_unique d c Sort Size j k h i = absurd (FirstFault-fails (Passes d Sort) (sites (trial_of Sort) c) j i.0 h)
refusals_unique d c Sort Bound j k h i = absurd (FirstFault-fails (Passes d Sort) (sites (trial_of Sort) c) j i.0 h)
refusals_unique d c Time Sort j k h i = absurd (FirstFault-fails (Passes d Sort) (sites (trial_of Sort) c) k h.0 i)
refusals_unique d c Time Time j k h i = (refl, FirstFault-unique (Passes d Time) (sites (trial_of Time) c) j k h.1 i.1)
refusals_unique d c Time Scale j k h i = absurd (FirstFault-fails (Passes d Time) (sites (trial_of Time) c) j i.1 h.1)
refusals_unique d c Time Size j k h i = absurd (FirstFault-fails (Passes d Time) (sites (trial_of Time) c) j i.1 h.1)
refusals_unique d c Time Bound j k h i = absurd (FirstFault-fails (Passes d Time) (sites (trial_of Time) c) j i.1 h.1)
refusals_unique d c Scale Sort j k h i = absurd (FirstFault-fails (Passes d Sort) (sites (trial_of Sort) c) k h.0 i)
refusals_unique d c Scale Time j k h i = absurd (FirstFault-fails (Passes d Time) (sites (trial_of Time) c) k h.1 i.1)
refusals_unique d c Scale Scale j k h i = (refl, FirstFault-unique (Passes d Scale) (sites (trial_of Scale) c) j k h.2 i.2)
refusals_unique d c Scale Size j k h i = absurd (FirstFault-fails (Passes d Scale) (sites (trial_of Scale) c) j i.2 h.2)
refusals_unique d c Scale Bound j k h i = absurd (FirstFault-fails (Passes d Scale) (sites (trial_of Scale) c) j i.2 h.2)
refusals_unique d c Size Sort j k h i = absurd (FirstFault-fails (Passes d Sort) (sites (trial_of Sort) c) k h.0 i)
refusals_unique d c Size Time j k h i = absurd (FirstFault-fails (Passes d Time) (sites (trial_of Time) c) k h.1 i.1)
refusals_unique d c Size Scale j k h i = absurd (FirstFault-fails (Passes d Scale) (sites (trial_of Scale) c) k h.2 i.2)
refusals_unique d c Size Size j k h i = (refl, FirstFault-unique (Passes d Size) (sites (trial_of Size) c) j k h.3 i.3)
refusals_unique d c Size Bound j k h i = absurd (FirstFault-fails (Passes d Size) (sites (trial_of Size) c) j i.3 h.3)
refusals_unique d c Bound Sort j k h i = absurd (FirstFault-fails (Passes d Sort) (sites (trial_of Sort) c) k h.0 i)
refusals_unique d c Bound Time j k h i = absurd (FirstFault-fails (Passes d Time) (sites (trial_of Time) c) k h.1 i.1)
refusals_unique d c Bound Scale j k h i = absurd (FirstFault-fails (Passes d Scale) (sites (trial_of Scale) c) k h.2 i.2)
refusals_unique d c Bound Size j k h i = absurd (FirstFault-fails (Passes d Size) (sites (trial_of Size) c) k h.3 i.3)
refusals_unique d c Bound Bound j k h i = (refl, FirstFault-unique (Passes d Bound) (sites (trial_of Bound) c) j k h.4 i.4)

pub accepted_not_refused : AcceptedAreNotRefused
accepted_not_refused d c Sort k a h = FirstFault-fails (Passes d Sort) (sites (trial_of Sort) c) k a.sorts h
accepted_not_refused d c Time k a h = FirstFault-fails (Passes d Time) (sites (trial_of Time) c) k a.times h.1
accepted_not_refused d c Scale k a h = FirstFault-fails (Passes d Scale) (sites (trial_of Scale) c) k a.scales h.2
accepted_not_refused d c Size k a h = FirstFault-fails (Passes d Size) (sites (trial_of Size) c) k a.sizes h.3
accepted_not_refused d c Bound k a h = FirstFault-fails (Passes d Bound) (sites (trial_of Bound) c) k a.bounds h.4
