pub mod LaterFaults
