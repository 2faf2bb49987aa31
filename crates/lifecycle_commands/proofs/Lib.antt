pub mod WritableFacts
pub mod AdvanceFacts
pub mod NovateFacts
pub mod StageFacts
pub mod SoundLifecycle
pub mod DueAreOne
pub mod TextsAreOne
