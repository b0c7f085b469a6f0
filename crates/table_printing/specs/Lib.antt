pub mod SaidOfTables
