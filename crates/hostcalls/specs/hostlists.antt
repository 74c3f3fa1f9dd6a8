-- Lists of calls as a host in C makes them, in numbers: they are lists of the node's calls, so what is proved of lists holds of them. Definitions and proofs only.
pub mod HostLists
pub mod HostTable
pub mod HostFree
