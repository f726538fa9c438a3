pub mod ExitStatuses
