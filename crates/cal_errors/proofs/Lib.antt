pub mod UnknownStatuses
