pub mod Apart
pub mod Born
pub mod Changing
pub mod Clients
pub mod Editing
pub mod Floors
pub mod Fronts
pub mod Heard
pub mod Honest
pub mod Keeping
pub mod Messages
pub mod Mirroring
pub mod Moving
pub mod Next
pub mod Outboxes
pub mod Pendings
pub mod Playing
mod Quiet
pub mod Receiving
pub mod Sample
pub mod Standing
pub mod Taking
pub mod Texts
mod Worked
