pub mod SaidOfJournals
