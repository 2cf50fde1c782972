pub mod AtFault
