use Rattle.term_model.specs.Acceptance.{Passes, trial_of}
use Rattle.term_model.specs.Sites.{sites}
use Rattle.term_model.proofs.Trials.{FirstFault-unique, FirstFault-fails}
use Rattle.term_model.proofs.laws.faults_are_unique.Goals as goal

pub returns : goal.returns
returns c = record {
  apart = λ d rule c k h f. FirstFault-fails (Passes d rule) (sites (trial_of rule) c) k h f;
  unique = λ d rule c j k f h. FirstFault-unique (Passes d rule) (sites (trial_of rule) c) j k f h;
}
