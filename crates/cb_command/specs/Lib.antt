pub mod Command
pub mod NodeWords
pub mod Peer
pub mod RpcWords
pub mod Words
