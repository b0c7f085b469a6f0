pub mod SaidOfCalls
